use Rattle.eden_model.proofs.Wholes.{shown_is_tree}
use Rattle.eden_model.proofs.ShownLemmas.{shows_items, follows_sources, sees_its_own, grafts_entry}
use Rattle.eden_model.proofs.shown.shown_laws.Goals as goal

pub returns : goal.returns
returns g c = record {
  is_tree = shown_is_tree _;
  shows_items = shows_items _;
  follows_sources = follows_sources _ _;
  sees_its_own = sees_its_own _;
  grafts_entry = grafts_entry _ _;
}
