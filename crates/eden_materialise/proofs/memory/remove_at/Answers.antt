use Rattle.std.proofs.Common.{None}
use Rattle.eden_materialise.specs.Moves.{changed_in}
use Rattle.eden_materialise.proofs.Putting.{edited}
use Rattle.eden_materialise.proofs.memory.remove_at.Goals as goal

pub returns : goal.returns
returns g c = edited (changed_in c.args.name.now None) c.args.path.now c.args.root.now c.change_at.new.self tt c.change_at.result c.change_at.ensures.none c.change_at.ensures.kept
    c.change_at.ensures.some
