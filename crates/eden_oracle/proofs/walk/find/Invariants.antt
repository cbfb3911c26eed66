use Rattle.std.proofs.Common.{◌≡◌, drop}
use Rattle.std.specs.Map.{lookup}
use Rattle.eden_model.specs.Paths.{path_eq}
use Rattle.eden_oracle.proofs.walk.find.Given as goal

-- what is left has the same first row at the path
abbrev pub invariant-loop-row : goal.invariant-loop-row
invariant-loop-row g l = lookup (path_eq l.path) (drop l.row-index l.rows) ≡ lookup (path_eq l.path) l.rows
