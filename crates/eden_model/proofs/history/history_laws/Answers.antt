use Rattle.eden_model.proofs.HistoryLemmas.{replay-append, replay_numbers-append, Legal-append}
use Rattle.eden_model.proofs.history.history_laws.Goals as goal

pub returns : goal.returns
returns c = record { replay_appends = replay-append; numbers_append = replay_numbers-append; legal_appends = Legal-append }
