use Rattle.std.proofs.Common.{◌≡◌, ◌≤◌, ◌+◌, ◌*◌, ◌-◌, ℕ, List, IsTrue, length, nat_cmp, btree_set_len}
use Rattle.std.specs.BTreeSet.{contains}
use Rattle.eden_model.specs.Limits.{number_end}
use Rattle.eden_model.specs.Numbers.{IsNumber}
use Rattle.eden_model.specs.declared.id.Id.{Id}
use Rattle.eden_repair.specs.Covering.{IsCovered, NoneIsOwn, none_seen}
use Rattle.eden_overlay_format.specs.declared.stored_entry.StoredEntry.{StoredEntry}
use Rattle.eden_repair.specs.Repairing.{Way}
use Rattle.eden_repair.specs.Surveying.{AreLed, AreOf, ForgetsMore}
use Rattle.eden_repair.proofs.repairing.walk_saved.Given as goal

abbrev pub invariant-loop-directory : goal.invariant-loop-directory
invariant-loop-directory g l = record {
  forgets : g.W.World.honest → (first : List Way) (stayed : List StoredEntry) → AreLed first l.fn.pending.items → AreOf (contains nat_cmp l.fn.met) stayed
      → ForgetsMore (g.F.Files.stored l.fn.files) first stayed l.fn.found.items (g.F.Files.stored l.files) l.found.items (contains nat_cmp l.met) l.pending.items;
  covered : g.W.World.honest → (root : Id) → IsCovered (g.F.Files.stored l.fn.files) root l.fn.pending.items (contains nat_cmp l.fn.met) none_seen
      → IsCovered (g.F.Files.stored l.files) root l.pending.items (contains nat_cmp l.met) none_seen;
  none_own : NoneIsOwn l.pending.items;
  range : (k : ℕ) → IsTrue (contains nat_cmp l.met k) → IsNumber k;
  few : btree_set_len l.met ≤ number_end;
  counted : g.F.Files.failures l.files ≡ g.F.Files.failures l.fn.files;
}

abbrev pub decreases-loop-directory : goal.decreases-loop-directory
decreases-loop-directory g l = 2 * (number_end - btree_set_len l.met) + length l.pending.items
