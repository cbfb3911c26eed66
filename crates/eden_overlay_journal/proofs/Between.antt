-- What changed between two bodies makes the new one of the old one.
use Rattle.std.proofs.Common.{◌≡◌, ◌∙◌, ◌+◌, ◌-◌, ◌≤◌, List, ℕ, append_assoc, ap, arith, drop, length, length-drop, sym, take}
use Rattle.std.proofs.lemmas.List.{drop-drop, take-append-drop}
use Rattle.eden_overlay_journal.specs.Records.{with_part}

-- how both bodies are cut
pub record AreCut (old new count old_rows rows old_rest rest middle : List ℕ) (front back : ℕ) : Type 0 where
  pub fits : 4 + front + back ≤ length old
  pub old_rows_are : old_rows ≡ drop 4 old
  pub count_is : count ≡ take 4 new
  pub rows_are : rows ≡ drop 4 new
  pub same_front : take front old_rows ≡ take front rows
  pub old_rest_is : old_rest ≡ drop front old_rows
  pub rest_is : rest ≡ drop front rows
  pub same_back : drop (length old_rest - back) old_rest ≡ drop (length rest - back) rest
  pub middle_is : middle ≡ take (length rest - back) rest

-- the end is the same in what is left behind the front
same_end : (old : List ℕ) (front back : ℕ) → 4 + front + back ≤ length old
    → drop (length old - back) old ≡ drop (length (drop front (drop 4 old)) - back) (drop front (drop 4 old))
same_end old front back fits =
    let e : drop front (drop 4 old) ≡ drop (4 + front) old = drop-drop front 4 old in
    let at : 4 + front + (length (drop (4 + front) old) - back) ≡ length old - back = simp length-drop (omega arith) in
    ap (λ n. drop n old) (sym at) ∙ sym (drop-drop (length (drop (4 + front) old) - back) (4 + front) old)
    ∙ ap (λ (l : List ℕ). drop (length l - back) l) (sym e)

pub made_again : (old new count old_rows rows old_rest rest middle : List ℕ) (front back : ℕ)
    → AreCut old new count old_rows rows old_rest rest middle front back → with_part old front back count middle ≡ new
made_again old new count old_rows rows old_rest rest middle front back c =
    let e0 = same_end old front back c.fits in
    let e1 = take-append-drop 4 new in
    let e2 = take-append-drop front rows in
    let e3 = take-append-drop (length rest - back) rest in
    simp append_assoc (cc)
