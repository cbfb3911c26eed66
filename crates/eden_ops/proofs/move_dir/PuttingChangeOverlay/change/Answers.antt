use Rattle.std.proofs.Common.{Some, refl}
use Rattle.eden_tree.specs.Directory.{with_child}
use Rattle.eden_ops.proofs.Carried.{edited}
use Rattle.eden_ops.proofs.move_dir.PuttingChangeOverlay.change.Goals as goal

pub returns : goal.returns
returns g c = (
  refl,
  edited (with_child (Some c.args.self.child.value)) c.args.self.path.now c.args.entry.now c.change_at.new.self tt c.change_at.result
      c.change_at.ensures.none c.change_at.ensures.kept c.change_at.ensures.some,
)
