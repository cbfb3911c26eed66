use Rattle.std.proofs.Common.{rules, ◌≡◌, ◌∙◌, List, [], ◌∷◌, length, get_or, map, sym, ap, codes, arith}
use Rattle.std.specs.Str.{bytes_eq}
use Rattle.std.proofs.lemmas.Slice.Eq.{bytes_eq-Decides}
use Rattle.clap.specs.Walk.{Text}
use Rattle.mountd_options.proofs.command.asks_version.Goals as goal

-- two words, of which the second is known
two_words : {X : Type 0} (text : X → Text) (xs : List X) (x : X) → length xs ≡ 2 → x ≡ get_or xs 1 x → (name : Text) × (map text xs ≡ name ∷ text x ∷ [])
two_words text [] x len is = absurd (omega (arith, len))
two_words text (a ∷ []) x len is = absurd (omega (arith, len))
two_words text (a ∷ b ∷ []) x len is = (text a, ap (λ w. text a ∷ text w ∷ []) (sym is))
two_words text (a ∷ b ∷ d ∷ rest) x len is = absurd (omega (arith, len))

pub returns-in-len2 : goal.returns-in-len2
returns-in-len2 g c =
    let words = c.args.words.now in
    let two : length words ≡ 2 = omega arith in
    let told = two_words g.S.AsStr.text words c.word-item.result two c.word-item.is in
    let same : c.eq.result ≡ bytes_eq (g.S.AsStr.text c.word-item.result) (codes "--version") = search rules in
    let decides = bytes_eq-Decides (g.S.AsStr.text c.word-item.result) (codes "--version") in (
      λ is. (told.0, told.1 ∙ ap (λ (w : Text). told.0 ∷ w ∷ []) (decides.0 (sym same ∙ is))),
      λ asks.
          let both : told.0 ∷ g.S.AsStr.text c.word-item.result ∷ [] ≡ asks.0 ∷ codes "--version" ∷ [] = sym told.1 ∙ asks.1 in
          let second : g.S.AsStr.text c.word-item.result ≡ codes "--version" = cc in
          same ∙ decides.1 second,
    )
