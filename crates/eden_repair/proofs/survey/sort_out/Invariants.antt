use Rattle.std.proofs.Common.{◌≡◌, ◌≤◌, ◌+◌, ℕ, List, IsTrue, length, nat_cmp}
use Rattle.std.specs.BTreeSet.{contains, btree_set_len}
use Rattle.eden_model.specs.Limits.{number_end}
use Rattle.eden_model.specs.Numbers.{IsNumber}
use Rattle.eden_overlay_format.specs.declared.stored_entry.StoredEntry.{StoredEntry}
use Rattle.eden_repair.specs.Repairing.{ways_below}
use Rattle.eden_repair.specs.Covering.{AreBelow, AreNew}
use Rattle.eden_repair.specs.Surveying.{AreLed, AreOf, SortsOn}
use Rattle.eden_repair.proofs.survey.sort_out.Given as goal

abbrev pub invariant-entries : goal.invariant-entries
invariant-entries g l = record {
  new : AreNew l.sorted.listing (contains nat_cmp l.initial.met) (contains nat_cmp l.met);
  below : AreBelow l.sorted.listing l.sorted.below.items;
  led : AreLed (ways_below l.path l.sorted.listing) l.sorted.below.items;
  sorts : g.W.World.honest → (stayed : List StoredEntry) → AreOf (contains nat_cmp l.initial.met) stayed
      → SortsOn (g.F.Files.stored l.initial.files) l.path stayed l.yielded l.sorted (contains nat_cmp l.met);
  more : btree_set_len l.initial.met + length l.sorted.below.items ≤ btree_set_len l.met;
  range : (k : ℕ) → IsTrue (contains nat_cmp l.met k) → IsNumber k;
  few : btree_set_len l.met ≤ number_end;
  short : length l.sorted.listing ≤ length l.yielded;
  unchanged : g.W.World.honest → g.F.Files.stored l.files ≡ g.F.Files.stored l.initial.files;
  counted : g.F.Files.failures l.files ≡ g.F.Files.failures l.initial.files;
}
