use Rattle.std.proofs.Common.{Ok}
use Rattle.eden_ops.specs.Carrying.{StaysToThere}
use Rattle.eden_ops.specs.Relocating.{Readies}
use Rattle.eden_ops.proofs.ready.let_go_below.Given as goal

abbrev pub invariant-loop-i : goal.invariant-loop-i
invariant-loop-i g l =
    Readies g.W.World g.F.Files l.initial.inodes l.inodes (Ok tt) × StaysToThere l.path l.initial.inodes.root l.inodes.root
