use Rattle.std.proofs.Common.{◌≡◌, ◌+◌, ◌<◌, ◌≤◌, ◌^◌, ◌-◌, ℕ, Some, min}
use Rattle.std.specs.List.{slice_get}
use Rattle.std.specs.Map.{keys_of}
use Rattle.eden_model.specs.Trees as trees
use Rattle.eden_tree.specs.Directory.{Row, row_size, directory_size, child_of, with_child}
use Rattle.eden_coupling.specs.NumberUnloads.{UnloadsAway}
use Rattle.eden_coupling.specs.Unloading.{IsSettled}
use Rattle.eden_inode.proofs.Refusals.{Counts}
use Rattle.eden_inode.proofs.unload.+unload.Given as goal

abbrev pub decreases-unload_inside : goal.decreases-unload_inside
decreases-unload_inside g l = directory_size l.dir.now + directory_size l.dir.now

abbrev pub decreases-unload_entry : goal.decreases-unload_entry
decreases-unload_entry g l = row_size l.entry.now + row_size l.entry.now + 1

-- so many have gone, and that was refused; the entries before i are settled, and those from i on as they were
abbrev pub invariant-unload_inside-loop-i : goal.invariant-unload_inside-loop-i
invariant-unload_inside-loop-i g l = record {
  went : (x : Row) → child_of x ≡ Some l.initial.dir
      → (c : ℕ) × ((l.gone.count ≡ min c (2 ^ 64 - 1)) × UnloadsAway g.W.World.honest l.clock l.age (g.F.Files.stored l.initial.overlay) x (g.F.Files.stored l.overlay) (with_child (Some l.dir) x) c);
  settled : (j : ℕ) (e : trees.Name × Row) → j < l.i → slice_get l.dir.rows j ≡ Some e → IsSettled l.clock l.age l.gone.refused e.1;
  left : (j : ℕ) → l.i ≤ j → slice_get l.dir.rows j ≡ slice_get l.initial.dir.rows j;
  names : keys_of l.dir.rows ≡ keys_of l.initial.dir.rows;
  counted : Counts l.gone.refused (g.F.Files.failures l.initial.overlay) (g.F.Files.failures l.overlay);
}
