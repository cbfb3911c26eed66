use Rattle.eden_coupling.proofs.NumbersStored.{save_unseen, gone_same, many_gone_same, owned_same}
use Rattle.eden_coupling.proofs.NumbersSaved.{chain_same, other_file_tied, other_file_kept, other_file_alike}
use Rattle.eden_coupling.proofs.NumbersOver.{saved_same_over, blank_rises, blank_saved, blank_stored}
use Rattle.eden_coupling.proofs.NumbersGone.{gone_same_over}
use Rattle.eden_coupling.proofs.numbering.number_save_laws.Goals as goal

pub returns : goal.returns
returns c = record {
  unseen = save_unseen;
  gone = gone_same;
  many_gone = many_gone_same;
  owned = owned_same;
  chain = chain_same;
  other_tied = other_file_tied;
  other_kept = other_file_kept;
  other_alike = other_file_alike;
  saved_over = saved_same_over;
  gone_over = gone_same_over;
  blank_rises = blank_rises;
  blank_saved = blank_saved;
  blank_stored = blank_stored;
}
