-- What changes nothing marks no directory unsaved.
use Rattle.std.proofs.Common.{◌≡◌, ◌≤◌, ◌⊎◌, ℕ, Bool, List, Option, Some, None, Result, Ok, Err, OnOk, IfErr, sym, refl, ◌∙◌, ap, subst, inl, inr, arith}
use Rattle.std.specs.Option.{option_map}
use Rattle.eden_model.specs.declared.fault.Fault.{Fault}
use Rattle.eden_model.specs.declared.fault.Fault.TheVariants as fault
use Rattle.eden_model.specs.declared.kind.Origin.TheVariants as origin
use Rattle.eden_model.specs.declared.world.World.{Ghosts}
use Rattle.eden_model.specs.Paths.{behind_of}
use Rattle.eden_model.specs.Trees.{Path, grafted}
use Rattle.eden_overlay.specs.declared.files.Files.{Ghosts as Files}
use Rattle.eden_tree.specs.Directory.{Row, Directory, child_of, with_child}
use Rattle.eden_tree.specs.Paths.{row_at, edit_row, stamped_along, Standing, standing, standing_at, stamped}
use Rattle.eden_tree.proofs.CallerLemmas.{stamps_along}
use Rattle.eden_coupling.specs.Chains.{NoneMarked, StaysLoaded}
use Rattle.eden_coupling.specs.Loading.{IsAt, IsNew, LoadsOwn}
use Rattle.eden_coupling.proofs.CallerLemmas.{map_some, none_inside, loaded_there, loaded_found, mark_of, unsaved_standing, standing_unsaved, none_marked_with}
use Rattle.eden_inode.specs.Tables.{Table}
use Rattle.eden_inode.specs.Trails.{KeepsPlaces}
use Rattle.eden_inode.proofs.CallerLemmas.{places_same, places_then}
use Rattle.eden_materialise.specs.Faults.{IsStoreFault}
use Rattle.eden_ops.specs.Changes.{StaysOrBecomesOwn, LeavesOn, Leaves}
use Rattle.eden_ops.specs.Keeping.{Loads, from_object, without, resumed, Step, stamps, loads, rests, Keeps, same, on}
use Rattle.eden_ops.specs.Laws.{Grows, KeepsLeaves}
use Rattle.eden_ops.proofs.Roots.{comes_on, root_grows}
use Rattle.eden_ops.proofs.Steps.{keeps_entries, keeps_counts}
use Rattle.eden_ops.proofs.Trailing.{keeps_names}

-- ---- stamps

mark_kept : (s : ℕ) (o : Option Path) (was : Option Standing) → mark_of (grafted o (λ r. option_map (stamped s) was) was) ≡ mark_of was
mark_kept s None was = refl
mark_kept s (Some r) None = refl
mark_kept s (Some r) (Some v) =
    elim v.loaded as (λ l. option_map (λ (m : ℕ × Bool). m.1) (option_map (λ (m : ℕ × Bool). (s, m.1)) l) ≡ option_map (λ (m : ℕ × Bool). m.1) l) [ None ↦ refl | Some l ↦ refl ]

stamps_mark : (p : Path) (s : ℕ) (x : Row) → NoneMarked x (stamped_along p s x)
stamps_mark p s x q unsaved =
    standing_unsaved q x
    (sym (mark_kept s (behind_of q p) (standing_at q x)) ∙ sym (ap mark_of (stamps_along p s x q)) ∙ unsaved_standing q (stamped_along p s x) unsaved)

-- ---- a directory that is loaded

loaded_marks : (p : Path) (x y : Row) (d : Directory) (clock : ℕ) → row_at p x ≡ Some y → IsNew clock d → NoneMarked x (stamped_along p clock (edit_row p (with_child (Some d)) x))
loaded_marks p x y d clock there fresh q unsaved =
    none_marked_with p x y d there (λ m v found. inr (none_inside d fresh.unloaded m v found)) fresh.saved q
    (stamps_mark p clock (edit_row p (with_child (Some d)) x) q unsaved)

-- ---- what grew holds what was loaded

pub grows_loads : (x z : Row) → Grows x z → StaysLoaded x z
grows_loads x z g p is =
    let l = loaded_found p x is in
    let v = g.there p (standing l.row) (ap (option_map standing) l.at) in
    let m = v.1.1.loaded l.directory.stamp l.directory.unsaved (ap (option_map (λ (e : Directory). (e.stamp, e.unsaved))) l.holds) in
    let y = map_some standing (row_at p z) v.0 (sym v.1.0) in
    let d = map_some (λ (e : Directory). (e.stamp, e.unsaved)) (child_of y.0) (m.0, l.directory.unsaved) (sym (ap (λ (s : Standing). s.loaded) y.1.1 ∙ m.1)) in
    loaded_there p z y.0 d.0 y.1.0 d.1.0

-- ---- the steps

module _ {W F : Type 0} (w : Ghosts W) (f : Files F W) where
  own_marks : (s : Table F) (p : Path) (z : Row) → IsAt p s.root origin.Own ⊎ IsAt p s.root origin.Empty → (l : LoadsOwn w.honest s.clock (f.stored s.files) s.root p z)
      → NoneMarked s.root (stamped_along p s.clock (edit_row p (with_child (Some l.directory)) s.root))
  own_marks s p z (inl at) l = loaded_marks p s.root at.row l.directory s.clock at.there l.new
  own_marks s p z (inr at) l = loaded_marks p s.root at.row l.directory s.clock at.there l.new

  load_marks : (s t : Table F) (p : Path) → Loads w f p s t → NoneMarked s.root t.root
  load_marks s t p (from_object id es at tree unsaved l) = subst (NoneMarked s.root) (sym l.is) (loaded_marks p s.root at.row l.directory s.clock at.there l.new)
  load_marks s t p (without none l next) = subst (NoneMarked s.root) (sym l.is) (own_marks s p t.root none l)
  load_marks s t p (resumed id at l had from next) = subst (NoneMarked s.root) (sym l.is) (loaded_marks p s.root at.row l.directory s.clock at.there l.new)

  step_marks : {ps : List Path} (s t : Table F) → Step w f ps s t → NoneMarked s.root t.root
  step_marks s _ (stamps p at) = stamps_mark p s.clock s.root
  step_marks s _ (loads t p at l b) = load_marks s t p l
  step_marks s _ (rests t root next b) = subst (NoneMarked s.root) (sym root) (λ q unsaved. unsaved)

  steps_marks : (ps : List Path) (s t : Table F) → Keeps w f ps s t → NoneMarked s.root t.root
  steps_marks ps s _ same q unsaved = unsaved
  steps_marks ps s _ (on t u k step) q unsaved = steps_marks ps s t k q (step_marks t u step q unsaved)

  pub keeps_leaves : KeepsLeaves w f
  keeps_leaves ps s t k =
      let n = keeps_counts w f _ s t k in
      record {
        everywhere = record {
          loaded = λ p all. grows_loads s.root t.root (keeps_entries w f ps s t k) p;
          root = root_grows s.root t.root
              (keeps_entries w f ps s t k);
          next = n.1.1.0;
          failures = n.1.1.1;
          clock = n.0;
          places = places_same s t n.1.0 (keeps_names w f s t k);
        };
        marks = steps_marks ps s t k;
      }

-- two changes, one after the other
pub leaves_on : {W F : Type 0} (f : Files F W) (paths : Path → Type 0) (s t u : Table F) → LeavesOn f paths s t → LeavesOn f paths t u → LeavesOn f paths s u
leaves_on f paths s t u a b =
    let n = a.next in
    let m = b.next in
    let c = a.failures in
    let d = b.failures in
    record {
      loaded = λ p in_them is. b.loaded p in_them (a.loaded p in_them is);
      root = comes_on s.root.origin t.root.origin u.root.origin a.root b.root;
      next = omega (arith, n, m);
      failures = omega
          (arith, c, d);
      clock = b.clock ∙ a.clock;
      places = places_then s t u a.places b.places;
    }

-- what leaves something on every path leaves it on some
pub leaves_some : {W F : Type 0} (f : Files F W) (paths : Path → Type 0) (s t : Table F) → Leaves f s t → LeavesOn f paths s t
leaves_some f paths s t l =
    let a = l.everywhere in
    record { loaded = λ p in_them. a.loaded p tt; root = a.root; next = a.next; failures = a.failures; clock = a.clock; places = a.places }

-- a change, by its parts
pub leaves_by : {W F : Type 0} (f : Files F W) (t u : Table F) → StaysLoaded t.root u.root → StaysOrBecomesOwn t.root.origin u.root.origin → NoneMarked t.root u.root → t.next ≤ u.next
    → u.clock ≡ t.clock
    → f.failures t.files ≤ f.failures u.files → KeepsPlaces t u → Leaves f t u
leaves_by f t u stays root marks next clock counted places = record {
  everywhere = record { loaded = λ p all. stays p; root = root; next = next; failures = counted; clock = clock; places = places };
  marks = marks;
}

pub no_less : (a b : ℕ) → b ≡ a → a ≤ b
no_less a b is = omega (arith, is)

pub fault_count : (a b : ℕ) (e : Fault) → IsStoreFault a b e → a ≤ b
fault_count a b (fault.Fetch id cause) h = absurd h
fault_count a b fault.Memory h = omega (arith, h)
fault_count a b fault.Overlay h = h.kept
fault_count a b fault.Numbers h = absurd h

-- what an answer tells of the device's failures
pub stored_count : (a : Result (Unit {0}) Fault) (m n : ℕ) → IfErr a (IsStoreFault m n) → OnOk a (n ≡ m) → m ≤ n
stored_count (Ok u) m n fault kept = no_less m n kept
stored_count (Err e) m n fault kept = fault_count m n e fault
