use Rattle.std.proofs.Common.{ap, ◌∙◌}
use Rattle.eden_tree.specs.Directory.{Row}
use Rattle.eden_ops.proofs.move_dir.HoldingChangeUnit.change.Goals as goal

pub invariant_of-entry : goal.invariant_of-entry
invariant_of-entry g c = record { loaded = λ h. ap (λ (r : Row). r.kind) c.entry.view_is ∙ c.requires; empty = c.entry.invariant.empty }
