-- Parts of a content are those of its file.
use Rattle.std.proofs.Common.{◌≡◌, ◌≤◌, ◌<◌, ◌+◌, ℕ, zero, suc, nat_lt, add-one, true, false, List, [], ◌∷◌, length, take, drop, Some, None, option_map, IsSome, refl, sym, ap, subst, ◌∙◌}
use Rattle.std.proofs.Common.{arith}
use Rattle.std.specs.Option.{is_some, option_and_then}
use Rattle.std.proofs.Math.ListN.{drop_of_length-le}
use Rattle.std.proofs.Math.Seq.{drop-nil}
use Rattle.std.proofs.lemmas.Bool.{ltb-true, ltb-false}
use Rattle.eden_overlay_format.specs.Content.{content_most}
use Rattle.eden_overlay_format.specs.Values.{content_in}
use Rattle.eden_overlay_format.proofs.CallerLemmas.{content_behind, content_short}
use Rattle.eden_overlay.specs.Files.{Stored, part}
use Rattle.eden_overlay.specs.Held.{HoldsContent, HoldsPart, content_at}

-- a tail of a tail
behind : (n m : ℕ) (xs : List ℕ) → drop (n + m) xs ≡ drop n (drop m xs)
behind n zero xs = ap (λ j. drop j xs) (omega (arith))
behind n (suc m) [] = drop-nil (n + suc m) ∙ sym (drop-nil n)
behind n (suc m) (x ∷ xs) = ap (λ j. drop j (x ∷ xs)) (ap (λ j. n + j) (sym (add-one m)) ∙ (omega (arith)) ∙ add-one (n + m)) ∙ behind n m xs

none_of_none : (n : ℕ) (xs : List ℕ) → xs ≡ [] → take n xs ≡ []
none_of_none zero xs is = refl
none_of_none (suc n) [] is = refl
none_of_none (suc n) (x ∷ xs) is = absurd cc

at_least : (a b : ℕ) → (a < b → ⊥) → b ≤ a
at_least a b below = elim (nat_lt a b) as (λ t. nat_lt a b ≡ t → b ≤ a) [
  | true ↦ λ e. absurd (below (ltb-true a b e))
  | false ↦ λ e. ltb-false a b e
] refl

-- a file that holds a content
with_bytes : (F : Stored) (k : ℕ) (P : Type 0) → IsSome (content_at F k) → ((bytes content : List ℕ) → F k ≡ Some bytes → content_in bytes ≡ Some content → P) → P
with_bytes F k P there say =
    elim (F k) as (λ f. F k ≡ f → IsSome (option_and_then content_in f) → P) [
      | None ↦ λ e t. absurd cc
      | Some bytes ↦ λ e t. elim (content_in bytes) as (λ o. content_in bytes ≡ o → IsSome o → P) [
        | None ↦ λ f t. absurd cc
        | Some content ↦ λ f t. say bytes content e f
      ] refl t
    ] refl there

-- what lies there of the file, behind its header
pub part_there : (F : Stored) (k from most : ℕ) (v : List ℕ) → IsSome (content_at F k) → option_map (part (from + 64) most) (F k) ≡ Some v → HoldsPart F k from most v
part_there F k from most v there is = with_bytes F k (HoldsPart F k from most v) there (λ bytes content e f.
    let same : Some (part (from + 64) most bytes) ≡ Some v = sym (ap (option_map (part (from + 64) most)) e) ∙ is in
    let given : part (from + 64) most bytes ≡ v = cc in
    record {
      content = content;
      held = ap (option_and_then content_in) e ∙ f;
      short = content_short bytes content f;
      is = sym given ∙ ap (take most) (behind from 64 bytes ∙ ap (drop from) (content_behind bytes content f).1);
    })

-- .. and none behind its end
pub part_behind : (F : Stored) (k from most : ℕ) → IsSome (content_at F k) → (from + 64 < 18446744073709551616 → ⊥) → HoldsPart F k from most []
part_behind F k from most there far = with_bytes F k (HoldsPart F k from most []) there (λ bytes content e f.
    let short = content_short bytes content f in
    let end = at_least (from + 64) 18446744073709551616 far in
    record {
      content = content;
      held = ap (option_and_then content_in) e ∙ f;
      short = short;
      is = sym (none_of_none most (drop from content) (drop_of_length-le content (omega (arith, short, end))));
    })

-- a part of a content that was got
pub part_got : (F : Stored) (k from most : ℕ) (content v : List ℕ) → HoldsContent F k content → v ≡ part from most content → HoldsPart F k from most v
part_got F k from most content v held is =
    let there : IsSome (content_at F k) = ap is_some held in
    with_bytes F k (HoldsPart F k from most v) there (λ bytes other e f.
    let one : Some other ≡ Some content = sym (ap (option_and_then content_in) e ∙ f) ∙ held in
    let same : other ≡ content = cc in
    record {
      content = content;
      held = held;
      short = subst (λ b. length b ≤ content_most) same (content_short bytes other f);
      is = is;
    })
