use Rattle.std.proofs.Common.{◌≡◌, take}
use Rattle.eden_overlay_format.proofs.listing.Listing.of.Given as goal

abbrev pub invariant-loop-entry : goal.invariant-loop-entry
invariant-loop-entry l = l.listing ≡ take l.entry-index l.entries
