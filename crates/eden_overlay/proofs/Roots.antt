-- What the head of file 1 tells of the root.
use Rattle.std.proofs.Common.{◌≡◌, ◌∙◌, ℕ, Bool, true, false, List, Option, Some, None, cond, not, refl, ap}
use Rattle.std.specs.Option.{is_some, option_and_then}
use Rattle.eden_overlay_format.specs.declared.header.Head.{Head}
use Rattle.eden_overlay_format.specs.Numbers.{numbers_by, has_numbers}
use Rattle.eden_overlay_format.proofs.CallerLemmas.{head_says}
use Rattle.eden_overlay.specs.Files.{IsHeadOf}
use Rattle.eden_overlay.specs.Held.{unless_numbers}

stands : (b : Bool) (bytes : List ℕ) → not b ≡ is_some (cond b None (Some bytes))
stands true bytes = refl
stands false bytes = refl

pub rooted : (bytes : List ℕ) (head : Head) → IsHeadOf (Some bytes) (Some head) → not (numbers_by head.first head.len) ≡ is_some (unless_numbers bytes)
rooted bytes head h = ap not (head_says head bytes h) ∙ stands (has_numbers bytes) bytes

pub unrooted : (file : Option (List ℕ)) → IsHeadOf file None → false ≡ is_some (option_and_then unless_numbers file)
unrooted None h = refl
unrooted (Some bytes) h = absurd h

pub rooted_by : (file : Option (List ℕ)) (head : Head) → IsHeadOf file (Some head)
    → not (numbers_by head.first head.len) ≡ is_some (option_and_then unless_numbers file)
rooted_by None head h = absurd h
rooted_by (Some bytes) head h = rooted bytes head h

stood : (b : Bool) (bytes : List ℕ) → true ≡ is_some (cond b None (Some bytes)) → cond b None (Some bytes) ≡ Some bytes
stood true bytes is = absurd (cc)
stood false bytes is = refl

-- a root's file that stands is file 1
pub root_stands : (file : Option (List ℕ)) → true ≡ is_some (option_and_then unless_numbers file) → option_and_then unless_numbers file ≡ file
root_stands None is = absurd (cc)
root_stands (Some bytes) is = stood (has_numbers bytes) bytes is

pub none_of : {X : Type 0} (o : Option X) (b : Bool) → b ≡ false → b ≡ is_some o → o ≡ None
none_of None b off is = refl
none_of (Some x) b off is = absurd (cc)
