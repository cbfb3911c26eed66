-- A struct that is all there.
use Rattle.std.proofs.Common.{◌≡◌, ◌≤◌, ℕ, List, length, Some, refl}
use Rattle.std.proofs.lemmas.Bool.{le-leb}
use Rattle.eden_fuse_format.specs.Members.{of_size}

pub whole : {X : Type 0} (size : ℕ) (bytes : List ℕ) (x : X) → size ≤ length bytes → of_size size bytes x ≡ Some x
whole size bytes x there = rw (le-leb size (length bytes) there) refl
