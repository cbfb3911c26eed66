use Rattle.eden_fuse_shown.specs.Showing.{ForgetsRows}
use Rattle.eden_fuse_shown.proofs.changing.forget_all.Given as goal

-- the rows so far were forgotten
abbrev pub invariant-rows : goal.invariant-rows
invariant-rows l = ForgetsRows l.index l.batch l.fn.nodes l.nodes
