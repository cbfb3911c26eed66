use Rattle.std.proofs.Common.{◌≡◌, ◌+◌, drop}
use Rattle.eden_fuse_shown.specs.Listing.{with_rows}
use Rattle.eden_fuse_shown.proofs.listing.put_rows.Given as goal

-- the rows that are left make of what is there what all make of what was there
abbrev pub invariant-rows : goal.invariant-rows
invariant-rows l =
    (l.off ≡ l.from + l.row-index) × (with_rows l.node l.size l.off (drop l.row-index l.rows) l.room.items ≡ with_rows l.node l.size l.from l.rows l.fn.room.items)
