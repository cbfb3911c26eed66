use Rattle.std.proofs.Common.{◌≡◌, ◌↔◌, None, length}
use Rattle.eden_model.specs.Names.{name_refusal}
use Rattle.eden_object.specs.Rows.{entry_of, HasEntries}
use Rattle.eden_object.proofs.OrderLemmas.{Marks, Stands}
use Rattle.eden_object.proofs.order.is_tree_in_order.Given as goal

abbrev pub invariant-rows : goal.invariant-rows
invariant-rows l = record {
  whole : HasEntries l.rest ↔ HasEntries l.body;
  good : name_refusal l.last.name.now ≡ None;
  marks : Marks l.fronts (length l.last.name.now);
  stands : Stands l.fronts (entry_of l.last) l.body l.rest;
}

abbrev pub decreases-rows : goal.decreases-rows
decreases-rows l = length l.rest
