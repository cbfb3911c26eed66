-- What keeps a table's numbers: loads, stamps and files.
use Rattle.std.proofs.Common.{◌≡◌, ◌≤◌, ◌⊎◌, ℕ, List, [], ◌∷◌, Option, Some, None, inl, inr, refl, sym, ap, subst, ◌∙◌, arith}
use Rattle.std.proofs.lemmas.Option.{same_Some, none-some}
use Rattle.std.specs.Option.{option_map, option_and_then}
use Rattle.eden_model.specs.declared.id.Id.{Id}
use Rattle.eden_model.specs.declared.kind.Kind.{Kind}
use Rattle.eden_model.specs.declared.kind.Kind.TheVariants as kind
use Rattle.eden_model.specs.declared.kind.Origin.{Origin}
use Rattle.eden_model.specs.declared.kind.Origin.TheVariants as origin
use Rattle.eden_model.specs.declared.tree_entry.TreeEntry.{TreeEntry}
use Rattle.eden_model.specs.Backing.{AreShown}
use Rattle.eden_model.specs.Limits.{number_least, number_end}
use Rattle.eden_model.specs.Repository.{Repository, source_of, no_files, entries_with, items_of}
use Rattle.eden_model.specs.Shown.{if_dir}
use Rattle.eden_model.specs.Trees.{Name, Path}
use Rattle.eden_overlay.specs.Files.{Stored}
use Rattle.eden_overlay.specs.Held.{saved_at}
use Rattle.eden_tree.specs.Directory.{Row, Directory, child_of, with_child}
use Rattle.eden_tree.specs.Paths.{edit_row}
use Rattle.eden_tree.proofs.CallerLemmas.{child_of-with_child}
use Rattle.eden_coupling.specs.Listings.{listing_of}
use Rattle.eden_coupling.specs.Loading.{IsAt, IsNew, LoadsObject, LoadsOwn, with_loaded}
use Rattle.eden_coupling.specs.NumberKept.{KeepsNumbers, SameNumbers, MoreNumbers, FreshKeeps, NextKeeps, StampsKeep, ObjectLoadKeeps, SavedLoadKeeps, SavedLoadFrom}
use Rattle.eden_coupling.specs.NumberLoads.{AreBlank}
use Rattle.eden_coupling.specs.NumberNodes.{ListTrees}
use Rattle.eden_coupling.specs.Numberings.{NumberFiles, in_files, entries_by, row_named, entry_below, numbers}
use Rattle.eden_coupling.specs.NumberSaves.{HasStored}
use Rattle.eden_coupling.specs.Shown.{item_away, IsFrom}
use Rattle.eden_coupling.specs.Unloading.{HasNoneInside}
use Rattle.eden_coupling.proofs.Objects.{none_inside}
use Rattle.eden_coupling.proofs.NumbersGiven.{within, not_own, nothing_below}
use Rattle.eden_coupling.proofs.NumbersListed.{trees_from, trees_loaded, trees_edited, trees_stamped, trees_resumed}
use Rattle.eden_coupling.proofs.NumbersLoaded.{stored_at, saved_load_same, object_load_gains, own_load_same, empty_load_same}
use Rattle.eden_coupling.proofs.NumbersOver.{blank_rises}
use Rattle.eden_coupling.proofs.NumbersRead.{below_away, in_memory, stamps_unseen}
use Rattle.eden_coupling.proofs.NumbersShown.{same_shown, rising_shown, gains_shown}
use Rattle.eden_coupling.proofs.NumbersStored.{listed_entry}

-- the same numbers over files that save none that are yet to be given
pub same_kept : (R : Repository) (F G : Stored) (x z : Row) (next : ℕ) → KeepsNumbers R F x next → ((q : Path) → numbers (in_files G) z q ≡ numbers (in_files F) x q)
    → AreBlank (in_files G) next → ListTrees R (in_files G) z → SameNumbers R F x G z next
same_kept R F G x z next k same blank trees = record {
  keeps = record { shown = same_shown (numbers (in_files F) x) (numbers (in_files G) z) next k.shown same; blank = blank; trees = trees };
  same = same;
}

-- ---- a table, as it is made

fresh_below : (M : NumberFiles) (x : Row) (n : Name) → x.number ≡ 1 → child_of x ≡ None → entries_by M 1 x.origin ≡ None → entry_below M x n ≡ None
fresh_below M x n one away none =
    below_away M x n away
    ∙ ap (option_and_then (row_named n)) (none_if_dir x.kind (entries_by M x.number x.origin) (ap (λ (k : ℕ). entries_by M k x.origin) one ∙ none))
  where
    none_if_dir : {X : Type 0} (k : Kind) (o : Option X) → o ≡ None → if_dir k o ≡ None
    none_if_dir kind.File o e = refl
    none_if_dir kind.Exec o e = refl
    none_if_dir kind.Link o e = refl
    none_if_dir kind.Dir o e = e

module _ (M : NumberFiles) (x : Row) (next : ℕ) (one : x.number ≡ 1) (away : child_of x ≡ None) (none : entries_by M 1 x.origin ≡ None) where
  only_root : (p : Path) (n : ℕ) → numbers M x p ≡ Some n → (p ≡ []) × (n ≡ 1)
  only_root [] n h = (refl, sym (same_Some x.number n h) ∙ one)
  only_root (m ∷ p) n h =
      absurd (none-some n (ap (option_and_then (λ z. numbers M z p)) (sym (fresh_below M x m one away none)) ∙ h))

  fresh_shown : number_least ≤ next → next ≤ number_end → AreShown (numbers M x) next
  fresh_shown start most = record {
    root = ap (λ (k : ℕ). Some k) one;
    once = λ p q n a b. (only_root p n a).0 ∙ sym (only_root q n b).0;
    from_two = λ p n h other. absurd (other (only_root p n h).0);
    below = λ p n h. (let is = (only_root p n h).1 in omega (arith, is, start));
    start = start;
    most = most;
  }

pub fresh_keeps : FreshKeeps
fresh_keeps R F x next one away none blank start most = record {
  shown = fresh_shown (in_files F) x next one away none start most;
  blank = blank;
  trees = trees_from R (in_files F) x
      (λ _ id es is had. absurd (none-some es (sym (ap (entries_by (in_files F) 1) (sym is) ∙ none) ∙ ap (λ (j : ℕ). saved_at F j id) (sym one) ∙ had)))
      (λ n z there. absurd (none-some z (sym (fresh_below (in_files F) x n one away none) ∙ there)));
}

-- ---- numbers that are given, and stamps

pub next_keeps : NextKeeps
next_keeps R F x next later k rises most = record {
  shown = rising_shown (numbers (in_files F) x) next later k.shown rises most;
  blank = blank_rises F next later k.blank rises;
  trees = k.trees;
}

pub stamps_keep : StampsKeep
stamps_keep R F x next clock p k =
    same_kept R F F x _ next k (λ q. stamps_unseen (in_files F) p clock x q) k.blank (trees_stamped R (in_files F) p clock x k.trees)

-- ---- loads

module _ (R : Repository) (F : Stored) (x : Row) (next : ℕ) (k : KeepsNumbers R F x next) where
  abbrev M : NumberFiles
  M = in_files F

  pub object_keeps : (clock : ℕ) (p : Path) (id : Id) (es : List TreeEntry) (z : Row) (later : ℕ) → (at : IsAt p x (origin.Object id)) → saved_at F at.row.number id ≡ None
      → (l : LoadsObject clock next x p es z later) → later ≤ number_end → MoreNumbers R F x next F z later
  object_keeps clock p id es z later at none l most =
      let gains = object_load_gains M clock next x p id es z later at none k.blank k.shown l most in
      let d = l.directory in
      let y = at.row in
      let new : ListTrees R M (with_child (Some d) y) =
      trees_loaded R M (with_child (Some d) y) d (child_of-with_child (Some d) y) (λ n w found.
      (let least = (within next d.rows n w l.has.numbered found).0 in
      trees_from R M w
      (λ _ i fs is had. absurd (none-some fs (sym (k.blank w.number i least) ∙ had)))
      (λ m v there. absurd (none-some v (sym (nothing_below M next w m k.blank least (not_own next es d n w l.has found) (none_inside d l.new.unloaded n w found)) ∙ there))))) in
      record {
        keeps = record {
          shown = gains_shown (numbers M x) (numbers M z) next later k.shown gains;
          blank = blank_rises F next later k.blank gains.rises;
          trees = subst (ListTrees R M) (sym l.is)
              (trees_stamped R M p clock (edit_row p (with_child (Some d)) x) (trees_edited R M p (with_child (Some d)) x y at.there k.trees new));
        };
        gains = gains;
      }

  resumed_keeps : (clock : ℕ) (p : Path) (o : Origin) (d : Directory) → (at : IsAt p x o) → HasNoneInside d → HasStored M at.row d
      → ((q : Path) → numbers M (with_loaded p clock d x) q ≡ numbers M x q) → SameNumbers R F x F (with_loaded p clock d x) next
  resumed_keeps clock p o d at inside_none had same =
      same_kept R F F x (with_loaded p clock d x) next k same k.blank (trees_resumed R M p clock x at.row d at.there at.unloaded inside_none had k.trees)

  pub saved_keeps : (clock : ℕ) (p : Path) (id : Id) (d : Directory) → (at : IsAt p x (origin.Object id)) → saved_at F at.row.number id ≡ Some (listing_of d) → IsNew clock d
      → SameNumbers R F x F (with_loaded p clock d x) next
  saved_keeps clock p id d at had new =
      resumed_keeps clock p (origin.Object id) d at (none_inside d new.unloaded) (inl (stored_at M p x (origin.Object id) at ∙ had))
      (λ q. saved_load_same M clock x p id d q at had new)

  pub saved_from : (clock : ℕ) (p : Path) (id : Id) (d : Directory) → (at : IsAt p x (origin.Object id)) → saved_at F at.row.number id ≡ Some (listing_of d) → IsNew clock d
      → IsFrom R no_files at.row d
  saved_from clock p id d at had new =
      let lists = k.trees p at.row id (listing_of d) (in_memory M x at.row p at.there) at.unloaded at.origin had in
      record {
        items = items_of lists.0;
        had = ap (λ o. entries_with R no_files (source_of at.row.number o)) at.origin ∙ ap (option_map items_of) lists.1;
        each = λ n. sym (ap (option_map item_away) (listed_entry d n (none_inside d new.unloaded))) ∙ lists.2 n;
      }

pub object_load_keeps : ObjectLoadKeeps
object_load_keeps R F clock next x p id es z later k at none l most = object_keeps R F x next k clock p id es z later at none l most

pub saved_load_keeps : SavedLoadKeeps
saved_load_keeps R F clock next x p id d k at had new = saved_keeps R F x next k clock p id d at had new

pub saved_load_from : SavedLoadFrom
saved_load_from R F clock next x p id d k at had new = saved_from R F x next k clock p id d at had new

-- a directory of its own that is loaded from its file, or an empty one
abbrev pub OwnLoadKeeps : Type 1
OwnLoadKeeps = (honest : Type 0) (R : Repository) (F : Stored) (clock next : ℕ) (x : Row) (p : Path) (z : Row) → honest → KeepsNumbers R F x next
    → IsAt p x origin.Own ⊎ IsAt p x origin.Empty → LoadsOwn honest clock F x p z → SameNumbers R F x F z next

pub own_load_keeps : OwnLoadKeeps
own_load_keeps honest R F clock next x p z h k (inl at) l =
    same_kept R F F x z next k (λ q. own_load_same honest F (saved_at F) clock x p z q h at l) k.blank
    (subst (ListTrees R (in_files F)) (sym l.is)
    (trees_resumed R (in_files F) p clock x at.row l.directory at.there at.unloaded (none_inside l.directory l.new.unloaded)
    (inl (stored_at (in_files F) p x origin.Own at ∙ l.own h at.row at.there at.origin)) k.trees))
own_load_keeps honest R F clock next x p z h k (inr at) l =
    same_kept R F F x z next k (λ q. empty_load_same honest F (saved_at F) clock x p z q at l) k.blank
    (subst (ListTrees R (in_files F)) (sym l.is)
    (trees_resumed R (in_files F) p clock x at.row l.directory at.there at.unloaded (none_inside l.directory l.new.unloaded)
    (inr (stored_at (in_files F) p x origin.Empty at, l.empty at.row at.there at.origin)) k.trees))
