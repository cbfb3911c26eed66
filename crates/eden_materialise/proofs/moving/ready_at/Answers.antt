use Rattle.std.proofs.Common.{sym}
use Rattle.eden_materialise.proofs.moving.ready_at.Goals as goal

pub write_listing-requires : goal.write_listing-requires
write_listing-requires g c =
    c.requires.storable c.in-Some.entry.now c.in-Some-directory.dir.now (sym c.in-Some.ensures) (sym c.in-Some-directory.ensures)
