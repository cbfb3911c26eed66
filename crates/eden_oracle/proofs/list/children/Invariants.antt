use Rattle.std.proofs.Common.{◌≡◌, [], ◌∷◌, ◌++◌, take}
use Rattle.std.specs.Map.{lookup}
use Rattle.std.specs.Option.{option_map}
use Rattle.eden_model.specs.Paths.{path_eq}
use Rattle.eden_model.specs.Trees.{Name}
use Rattle.eden_model.specs.Operations.{kind_of, kind_named}
use Rattle.eden_oracle.proofs.list.children.Given as goal

abbrev pub invariant-loop-row : goal.invariant-loop-row
invariant-loop-row l = (n : Name) → kind_named l.all n ≡ option_map kind_of (lookup (path_eq (l.dir ++ n ∷ [])) (take l.row-index l.rows))
