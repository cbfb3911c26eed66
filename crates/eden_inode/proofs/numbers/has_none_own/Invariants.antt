use Rattle.std.proofs.Common.{◌≡◌, ◌≢◌, ◌<◌, ℕ, Some}
use Rattle.std.specs.List.{slice_get}
use Rattle.eden_model.specs.declared.kind.Origin.TheVariants as origin
use Rattle.eden_model.specs.Trees as trees
use Rattle.eden_tree.specs.Directory.{Row}
use Rattle.eden_inode.proofs.numbers.has_none_own.Given as goal

-- none of the entries before i is
abbrev pub invariant-loop-i : goal.invariant-loop-i
invariant-loop-i g l = (j : ℕ) (e : trees.Name × Row) → j < l.i → slice_get l.dir.rows j ≡ Some e → e.1.origin ≢ origin.Own
