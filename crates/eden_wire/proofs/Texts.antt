-- Lemmas on the texts of replies.
use Rattle.std.proofs.Common.{◌≡◌, ◌<◌, ◌≤◌, ◌+◌, ◌==◌, ℕ, List, [], ◌∷◌, ◌++◌, length, true, false, take, sym, ap, ◌∙◌, refl, arith, codes, decimal, eqb-true}
use Rattle.std.specs.Prelude.{slice_index_or}
use Rattle.std.specs.List.{flat_map}
use Rattle.std.proofs.lemmas.Bool.{false≢true}
use Rattle.std.proofs.lemmas.List.{flat_map_more, take_more, take_all}
use Rattle.hex.specs.Hex.{encode_lower}
use Rattle.eden_model.specs.declared.kind.Kind.{Kind}
use Rattle.eden_model.specs.declared.reply.Reply.TheVariants as reply
use Rattle.eden_wire.specs.Replies.{entry_text, reply_text}

pub no_data : (bytes : List ℕ) → true ≡ (length bytes == 0) → codes "data 0\n" ≡ reply_text (reply.Data bytes)
no_data [] e = refl
no_data (b ∷ bytes) e = let none = eqb-true (length (b ∷ bytes)) 0 (sym e) in absurd (omega arith)

pub some_data : (bytes : List ℕ) → false ≡ (length bytes == 0)
    → codes "data " ++ decimal (length bytes) ++ codes " " ++ encode_lower bytes ++ codes "\n" ≡ reply_text (reply.Data bytes)
some_data [] e = absurd (false≢true e)
some_data (b ∷ bytes) e = refl

-- one more entry
pub more_rows : (rows : List (List ℕ × Kind)) (n : ℕ) (e : List ℕ × Kind) → n < length rows → e ≡ slice_index_or rows n e
    → flat_map entry_text (take n rows) ++ entry_text e ≡ flat_map entry_text (take (n + 1) rows)
more_rows rows n e below is = flat_map_more entry_text [] (take n rows) e ∙ ap (flat_map entry_text) (ap (λ (x : List ℕ × Kind). take n rows ++ x ∷ []) is ∙ sym (take_more rows n e below))

pub all_rows : (rows : List (List ℕ × Kind)) (n : ℕ) → length rows ≤ n → flat_map entry_text (take n rows) ≡ flat_map entry_text rows
all_rows rows n all = ap (flat_map entry_text) (take_all n rows all)
