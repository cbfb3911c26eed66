use Rattle.std.proofs.Common.{◌↔◌, List, length}
use Rattle.eden_model.specs.declared.tree_entry.TreeEntry.{TreeEntry}
use Rattle.eden_object.specs.Trees.{AreEntries, NamesDiffer}
use Rattle.eden_object.proofs.names.differ_pairwise.Given as goal

abbrev pub invariant-rows : goal.invariant-rows
invariant-rows l = (es : List TreeEntry) → AreEntries es l.body → (fs : List TreeEntry) × AreEntries fs l.rest × (NamesDiffer es ↔ NamesDiffer fs)

abbrev pub decreases-rows : goal.decreases-rows
decreases-rows l = length l.rest
