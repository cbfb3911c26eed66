-- What is read of a part is what was written.
use Rattle.std.proofs.Common.{◌≡◌, List, ◌++◌, ℕ, append_assoc, arith, drop, take}
use Rattle.std.specs.Int.{w64, to_be_bytes}
use Rattle.std.proofs.lemmas.List.{take-append-drop}
use Rattle.eden_overlay_journal.specs.Records.{part_front}
use Rattle.eden_overlay_journal.proofs.Alike.{end_parts}

-- what is read of a part's bytes
pub record IsRead (bytes front middle count : List ℕ) (before at_front at_back : ℕ) : Type 0 where
  pub front_is : front ≡ take 28 bytes
  pub middle_is : middle ≡ drop 28 bytes
  pub before_is : to_be_bytes w64 before ≡ take 8 (drop 0 front)
  pub at_front_is : to_be_bytes w64 at_front ≡ take 8 (drop 8 front)
  pub at_back_is : to_be_bytes w64 at_back ≡ take 8 (drop 16 front)
  pub count_is : count ≡ drop 24 front

pub read_back : (bytes front middle count : List ℕ) (before at_front at_back : ℕ)
    → IsRead bytes front middle count before at_front at_back → bytes ≡ part_front before at_front at_back count ++ middle
unfolding part_front
read_back bytes front middle count before at_front at_back r =
    let e0 : take 28 bytes ++ drop 28 bytes ≡ bytes = take-append-drop 28 bytes in
    let e1 : front ≡ take 8 (drop 0 front) ++ drop 8 front = end_parts 0 8 front (omega arith) in
    let e2 : drop 8 front ≡ take 8 (drop 8 front) ++ drop 16 front = end_parts 8 16 front (omega arith) in
    let e3 : drop 16 front ≡ take 8 (drop 16 front) ++ drop 24 front = end_parts 16 24 front (omega arith) in
    simp append_assoc (cc)
