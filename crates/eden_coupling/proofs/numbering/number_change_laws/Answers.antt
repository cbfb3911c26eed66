use Rattle.eden_coupling.proofs.NumbersChanged.{change_grafts, drop_is_edit, put_is_edit, move_is_edit, bare_same, unseen_same}
use Rattle.eden_coupling.proofs.numbering.number_change_laws.Goals as goal

pub returns : goal.returns
returns c = record {
  grafts = change_grafts;
  drop = drop_is_edit;
  put = put_is_edit;
  moves = move_is_edit;
  bare = bare_same;
  unseen = unseen_same;
}
