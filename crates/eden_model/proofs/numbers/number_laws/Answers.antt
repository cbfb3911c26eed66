use Rattle.eden_model.proofs.NumberRequests.{stat_gives, stat_keeps, stat_tells_given, rename_moves, rename_keeps, unlink_takes, rmdir_takes, new_has_none, errors_keep, faults_keep}
use Rattle.eden_model.proofs.NumbersKept.{rename_leaves_none, spent_stays, after_are_numbers, replay_are_numbers, gone_for_good}
use Rattle.eden_model.proofs.numbers.number_laws.Goals as goal

pub returns : goal.returns
returns c = record {
  stat_gives = stat_gives;
  stat_keeps = stat_keeps;
  stat_tells_given = stat_tells_given;
  rename_moves = rename_moves;
  rename_leaves_none = rename_leaves_none;
  rename_keeps = rename_keeps;
  unlink_takes = unlink_takes;
  rmdir_takes = rmdir_takes;
  new_has_none = new_has_none;
  errors_keep = errors_keep;
  faults_keep = faults_keep;
  spent_stays = spent_stays;
  after = after_are_numbers;
  replay = replay_are_numbers;
  gone_for_good = gone_for_good;
}
