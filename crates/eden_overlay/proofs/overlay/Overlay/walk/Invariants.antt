use Rattle.std.proofs.Common.{◌≡◌, ◌≤◌, ◌-◌, ℕ, false, IsTrue, nat_cmp, btree_set_len}
use Rattle.std.specs.BTreeSet.{contains}
use Rattle.eden_model.specs.Limits.{number_end}
use Rattle.eden_model.specs.Numbers.{IsNumber}
use Rattle.eden_overlay.specs.Walking.{AreInRange, GoesOn}
use Rattle.eden_overlay.proofs.overlay.Overlay.walk.Given as goal

abbrev pub invariant-loop-entry : goal.invariant-loop-entry
invariant-loop-entry g l = record {
  unchanged : g.W.World.honest → g.F.Files.stored l.self ≡ g.F.Files.stored l.fn.self;
  counted : g.F.Files.failures l.fn.self ≤ g.F.Files.failures l.self;
  walked : g.W.World.honest → GoesOn (g.F.Files.stored l.fn.self) l.fn.pending.items (λ _. false) l.pending.items (contains nat_cmp l.met);
  ranges : AreInRange l.pending.items;
  met : (k : ℕ) → IsTrue (contains nat_cmp l.met k) → IsNumber k;
}

abbrev pub decreases-loop-entry : goal.decreases-loop-entry
decreases-loop-entry g l = number_end - btree_set_len l.met
