use Rattle.std.proofs.Common.{length, refl}
use Rattle.std.proofs.lemmas.Option.{slice_get_read}
use Rattle.eden_fuse_shown.proofs.Keeping.{clears_on}
use Rattle.eden_fuse_shown.proofs.shown.Shown.clear_rows.Goals as goal

pub rows-preserved : goal.rows-preserved
rows-preserved g c =
    clears_on g.M.Mount.answers c.rows.row-index c.args.rows.now c.row-item.result c.args.self.now c.rows.self c.clear_row.new.self
    (slice_get_read c.args.rows.now (length c.args.rows.now) c.rows.row-index c.row-item.result refl c.rows-test.true c.row-item.is) c.rows.invariant c.clear_row.ensures
