use Rattle.eden_model.proofs.NumbersBacked.{shown_is_allowed, opening_is_backed, reopening_keeps, same_is_gained, next_is_gained, gains_more, gains_are_shown, gains_are_backed, stat_is_backed}
use Rattle.eden_model.proofs.NumbersBacked.{change_is_backed, answer_is_allowed, answer_is_backed}
use Rattle.eden_model.proofs.numbers.backing_laws.Goals as goal

pub returns : goal.returns
returns c = record {
  shown_is_allowed = shown_is_allowed;
  opening_is_backed = opening_is_backed;
  reopening_keeps = reopening_keeps;
  same_is_gained = same_is_gained;
  next_is_gained = next_is_gained;
  gains_more = gains_more;
  gains_are_shown = gains_are_shown;
  gains_are_backed = gains_are_backed;
  stat_is_backed = stat_is_backed;
  change_is_backed = change_is_backed;
  answer_is_allowed = answer_is_allowed;
  answer_is_backed = answer_is_backed;
}
