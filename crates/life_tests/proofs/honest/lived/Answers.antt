use Rattle.std.proofs.Common.{ℕ, List, ap}
use Rattle.eden_overlay.specs.InMemory.{stored_in}
use Rattle.life_tests.proofs.FreshLemmas.{fresh_opens}
use Rattle.life_tests.proofs.honest.lived.Goals as goal

pub live-requires : goal.live-requires
live-requires c = record {
  files = λ h. fresh_opens c.opening_laws.ensures.fresh _ (λ k. ap (λ (rows : List (ℕ × List ℕ)). stored_in rows k) c.new-files.ensures);
  empty = c.new-history.ensures.entries;
}
