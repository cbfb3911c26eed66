-- What is read of a record's fields is what was written.
use Rattle.std.proofs.Common.{◌≡◌, ◌≤◌, List, ◌++◌, ℕ, append_assoc, arith, drop, length, length-drop, take}
use Rattle.std.specs.Int.{w64, to_be_bytes}
use Rattle.std.proofs.lemmas.List.{take_all}
use Rattle.eden_overlay_journal.specs.Records.{fields, note_bytes}
use Rattle.eden_overlay_journal.specs.declared.record.Note.{Note}
use Rattle.eden_overlay_journal.proofs.Alike.{end_parts}

-- what is read of a record's first bytes
pub record AreRead (front : List ℕ) (note : Note) (number when len : ℕ) : Type 0 where
  pub as_long : length front ≡ 48
  pub note_is : note_bytes note ≡ take 4 (drop 20 front)
  pub number_is : to_be_bytes w64 number ≡ take 8 (drop 24 front)
  pub when_is : to_be_bytes w64 when ≡ take 8 (drop 32 front)
  pub len_is : to_be_bytes w64 len ≡ take 8 (drop 40 front)

pub fields_back : (front : List ℕ) (note : Note) (number when len : ℕ) → AreRead front note number when len
    → drop 20 front ≡ fields note number when len
unfolding fields
fields_back front note number when len r =
    let e1 : drop 20 front ≡ take 4 (drop 20 front) ++ drop 24 front = end_parts 20 24 front (omega arith) in
    let e2 : drop 24 front ≡ take 8 (drop 24 front) ++ drop 32 front = end_parts 24 32 front (omega arith) in
    let e3 : drop 32 front ≡ take 8 (drop 32 front) ++ drop 40 front = end_parts 32 40 front (omega arith) in
    let short : length (drop 40 front) ≤ 8 = omega (arith, r.as_long, length-drop 40 front) in
    let e4 : take 8 (drop 40 front) ≡ drop 40 front = take_all 8 (drop 40 front) short in
    simp append_assoc (cc)
