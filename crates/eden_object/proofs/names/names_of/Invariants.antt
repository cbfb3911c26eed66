use Rattle.std.proofs.Common.{◌≡◌, ◌++◌, List, length, map}
use Rattle.eden_model.specs.declared.tree_entry.TreeEntry.{TreeEntry}
use Rattle.eden_object.specs.Trees.{AreEntries}
use Rattle.eden_object.proofs.names.names_of.Given as goal

abbrev pub invariant-rows : goal.invariant-rows
invariant-rows l = (es : List TreeEntry) → AreEntries es l.body → (fs : List TreeEntry) × AreEntries fs l.rest × (map (λ n. n.now) l.names.items ++ map (λ e. e.name) fs ≡ map (λ e. e.name) es)

abbrev pub decreases-rows : goal.decreases-rows
decreases-rows l = length l.rest
