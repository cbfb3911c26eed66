use Rattle.std.proofs.Common.{◌≡◌, ◌≤◌, ◌+◌, ◌++◌, ℕ, List, false, IsTrue, length, nat_cmp}
use Rattle.std.specs.BTreeSet.{contains, btree_set_len}
use Rattle.eden_model.specs.Limits.{number_end}
use Rattle.eden_model.specs.Numbers.{IsNumber}
use Rattle.eden_overlay_format.specs.declared.stored_entry.StoredEntry.{StoredEntry}
use Rattle.eden_repair.specs.Repairing.{StandTwice, ways_below}
use Rattle.eden_repair.specs.Surveying.{AreLed, AreOf}
use Rattle.eden_repair.specs.Covering.{AreBelow, AreNew}
use Rattle.eden_repair.proofs.saved.take_in.Given as goal

abbrev pub invariant-entries : goal.invariant-entries
invariant-entries l = record {
  new : IsTrue l.are_new → AreNew l.yielded (contains nat_cmp l.initial.met) (contains nat_cmp l.met);
  below : IsTrue l.are_new → AreBelow l.yielded l.below.items;
  twice : l.are_new ≡ false → (known : List StoredEntry) → AreOf (contains nat_cmp l.initial.met) known → StandTwice known l.yielded;
  all : (known : List StoredEntry) → AreOf (contains nat_cmp l.initial.met) known → AreOf (contains nat_cmp l.met) (known ++ l.yielded);
  led : AreLed (ways_below l.path l.yielded) l.below.items;
  stay : (k : ℕ) → IsTrue (contains nat_cmp l.initial.met k) → IsTrue (contains nat_cmp l.met k);
  more : btree_set_len l.initial.met + length l.below.items ≤ btree_set_len l.met;
  range : (k : ℕ) → IsTrue (contains nat_cmp l.met k) → IsNumber k;
  few : btree_set_len l.met ≤ number_end;
}
