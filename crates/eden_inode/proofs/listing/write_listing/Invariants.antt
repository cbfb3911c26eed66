use Rattle.std.proofs.Common.{◌≡◌}
use Rattle.eden_inode.proofs.Entries.{entries_as}
use Rattle.eden_inode.proofs.listing.write_listing.Given as goal

abbrev pub invariant-loop-i : goal.invariant-loop-i
invariant-loop-i g l = l.entries ≡ entries_as l.listed l.dir.rows l.i
