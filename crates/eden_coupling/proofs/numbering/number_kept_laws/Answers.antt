use Rattle.eden_coupling.proofs.NumbersAway.{put_away_keeps}
use Rattle.eden_coupling.proofs.NumbersEdited.{mark_keeps, drop_keeps, add_keeps, replace_keeps, move_keeps}
use Rattle.eden_coupling.proofs.NumbersFiles.{loaded_files_keep, not_shown_unseen, file_unseen, loaded_unseen, other_not_shown, unseen_file_keeps, chain_keeps, refused_keeps}
use Rattle.eden_coupling.proofs.NumbersKept.{fresh_keeps, next_keeps, stamps_keep, object_load_keeps, saved_load_keeps, saved_load_from}
use Rattle.eden_coupling.proofs.NumbersRestored.{saved_load_over}
use Rattle.eden_coupling.proofs.NumbersSteps.{leave_keeps, left_not_shown, replaced_not_shown, come_keeps, owned_keeps, hold_keeps}
use Rattle.eden_coupling.proofs.numbering.number_kept_laws.Goals as goal

pub returns : goal.returns
returns c = record {
  fresh = fresh_keeps;
  next = next_keeps;
  stamps = stamps_keep;
  object_load = object_load_keeps;
  saved_load = saved_load_keeps;
  saved_from = saved_load_from;
  saved_over = saved_load_over;
  loaded_files = loaded_files_keep;
  not_shown = not_shown_unseen;
  file_unseen = file_unseen;
  loaded_unseen = loaded_unseen;
  other_not_shown = other_not_shown;
  unseen_file = unseen_file_keeps;
  chain = chain_keeps;
  refused = refused_keeps;
  mark = mark_keeps;
  drop = drop_keeps;
  add = add_keeps;
  replace = replace_keeps;
  moves = move_keeps;
  put_away = put_away_keeps;
  leave = leave_keeps;
  left = left_not_shown;
  replaced = replaced_not_shown;
  come = come_keeps;
  owned = owned_keeps;
  hold = hold_keeps;
}
