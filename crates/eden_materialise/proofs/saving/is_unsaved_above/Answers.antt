use Rattle.std.proofs.Common.{sym}
use Rattle.eden_materialise.proofs.Fronts.{saved_away}
use Rattle.eden_materialise.proofs.saving.is_unsaved_above.Goals as goal

pub returns-in-None-clause-clear : goal.returns-in-None-clause-clear
returns-in-None-clause-clear g c is = saved_away c.args.path.now c.args.inodes.now.root (sym c.in-None.ensures)
