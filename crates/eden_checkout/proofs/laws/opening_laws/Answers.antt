use Rattle.eden_checkout.proofs.Fresh.{opens_fresh, opens_as_shown}
use Rattle.eden_checkout.proofs.Rescanned.{finds_as, accuses_as}
use Rattle.eden_checkout.proofs.laws.opening_laws.Goals as goal

pub returns : goal.returns
returns c = record {
  fresh = opens_fresh c.overlay_laws.ensures.rootless c.backing_laws.ensures.opening_is_backed;
  as_shown = opens_as_shown c.backing_laws.ensures.opening_is_backed;
  finds = finds_as;
  accuses = accuses_as;
}
