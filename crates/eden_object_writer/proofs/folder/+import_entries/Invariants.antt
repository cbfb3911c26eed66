use Rattle.std.proofs.Common.{◌-◌}
use Rattle.eden_object_writer.specs.Limits.{most_levels}
use Rattle.eden_object_writer.specs.Trees.{HasPlainModes}
use Rattle.eden_object_writer.proofs.folder.+import_entries.Given as goal

abbrev pub decreases-import_entries : goal.decreases-import_entries
decreases-import_entries g l = most_levels - l.levels

abbrev pub invariant-loop-found : goal.invariant-loop-found
invariant-loop-found g l = record {
  can_next : (goal.iterator-loop-found g).can_next l.found-iterator;
  is_finite : (goal.iterator-loop-found g).is_finite l.found-iterator;
  plain : HasPlainModes l.entries.items;
}
