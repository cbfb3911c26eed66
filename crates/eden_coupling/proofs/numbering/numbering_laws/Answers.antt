use Rattle.eden_coupling.proofs.NumbersRead.{numbers_of_entries, numbers_from_entry, entry_grafts, name_grafts, stamps_unseen}
use Rattle.eden_coupling.proofs.NumbersNodes.{numbers_are_nodes}
use Rattle.eden_coupling.proofs.NumbersLoaded.{object_load_gains, saved_load_same}
use Rattle.eden_coupling.proofs.NumbersFound.{names_are_shown, saved_are_unnamed}
use Rattle.eden_coupling.proofs.NumbersResumed.{saved_load_kept}
use Rattle.eden_coupling.proofs.numbering.numbering_laws.Goals as goal

pub returns : goal.returns
returns c = record {
  entries = numbers_of_entries;
  from_entry = numbers_from_entry;
  entry_grafts = entry_grafts;
  name_grafts = name_grafts;
  stamps = stamps_unseen;
  nodes = numbers_are_nodes;
  object_gains = object_load_gains;
  saved_same = saved_load_same;
  names_shown = names_are_shown;
  saved_unnamed = saved_are_unnamed;
  saved_kept = saved_load_kept;
}
