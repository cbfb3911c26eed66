-- Each child is smaller than the directory that leads to it.
use Rattle.std.specs.Prelude.{◌≤◌, ◌+◌, List, [], ◌∷◌, Some, None}
use Rattle.std.proofs.Common.{arith}
use denote.Param.Weighed.{most}
use Rattle.std.specs.declared.alloc.Allocator.{Ghosts}
use Rattle.eden_model.specs.Trees.{Name}
use Rattle.eden_tree.specs.Directory.{Row, row_size, directory_size, rows_size, rows_of}
use Rattle.eden_tree.specs.Seen.{row_from, directory_from}
use Rattle.eden_tree.specs.declared.dir.Entry.TheInside as entry
use Rattle.eden_tree.specs.declared.dir.Dir.TheInside as dir
use Rattle.eden_tree.specs.declared.dir.Dir.TheDeep.{deep-Entry, deep-Dir}
use Rattle.eden_tree.specs.declared.dir.Dir.TheShapes.{weighed-Dir-items-at-2}

by_child : {A : Type 0} (g : Ghosts A) (n : _) (k : _) (o : _) (c : _)
    → deep-Entry A g (record { number = n; kind = k; origin = o; child = c }) ≤ row_size (row_from {A = A} n k o c)
by_child g n k o None = omega arith
by_child g n k o (Some b) = omega arith

pub entry_falls : {A : Type 0} (g : Ghosts A) (e : entry.Inside A) → deep-Entry A g e ≤ row_size (row_from e.number e.kind e.origin e.child)
entry_falls g e = by_child g e.number e.kind e.origin e.child

most_le_rows : {A : Type 0} (g : Ghosts A) (es : List (Name × Row))
    → most (λ x. (weighed-Dir-items-at-2 A).weight Row (λ y. row_size y + 1) x) es ≤ rows_size (rows_of es)
most_le_rows g [] = omega arith
most_le_rows g (e ∷ es) = omega (arith, most_le_rows g es)

pub directory_falls : {A : Type 0} (g : Ghosts A) (a : dir.Inside A) → deep-Dir A g a ≤ directory_size (directory_from a.stamp a.unsaved a.items.items)
directory_falls g a = omega (arith, most_le_rows g a.items.items)
