use Rattle.std.proofs.Common.{◌≡◌, ◌<◌, ℕ}
use Rattle.std.specs.List.{slice_get}
use Rattle.eden_coupling.specs.Listings.{listing_of}
use Rattle.eden_inode.proofs.numbers.has_listing.Given as goal

-- the entries before i are these
abbrev pub invariant-loop-i : goal.invariant-loop-i
invariant-loop-i g l = (j : ℕ) → j < l.i → slice_get (listing_of l.dir) j ≡ slice_get l.entries j
