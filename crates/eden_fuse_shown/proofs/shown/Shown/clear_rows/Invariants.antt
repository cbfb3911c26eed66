use Rattle.eden_fuse_shown.specs.Showing.{ClearsRows}
use Rattle.eden_fuse_shown.proofs.shown.Shown.clear_rows.Given as goal

-- the rows so far were cleared
abbrev pub invariant-rows : goal.invariant-rows
invariant-rows g l = ClearsRows g.M.Mount.answers l.row-index l.rows l.fn.self l.self
