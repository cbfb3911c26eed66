use Rattle.std.proofs.Common.{◌↔◌, drop}
use Rattle.std.specs.List.{IsDistinct}
use Rattle.std.specs.Map.{keys_of}
use Rattle.eden_model.specs.Paths.{path_eq}
use Rattle.eden_oracle.proofs.shape.are_distinct.Given as goal

-- a path comes twice just where it does in what is left
abbrev pub invariant-loop-k : goal.invariant-loop-k
invariant-loop-k l = IsDistinct path_eq (keys_of (drop l.k l.rows)) ↔ IsDistinct path_eq (keys_of l.rows)
