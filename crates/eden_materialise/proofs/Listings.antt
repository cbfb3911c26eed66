-- One entry of a listing changed: what its stores need, what it keeps, and what is shown then.
use Rattle.std.proofs.Common.{◌≡◌, ◌⊎◌, ℕ, [], ◌∷◌, ◌++◌, Option, Some, Result, Ok, Err, OnOk, OnErr, inl, inr, refl, sym, ap, ◌∙◌, subst}
use Rattle.std.proofs.lemmas.Option.{same_Some}
use Rattle.eden_model.specs.declared.fault.Fault.{Fault}
use Rattle.eden_model.specs.Repository.{Repository}
use Rattle.eden_model.specs.Trees.{Name, Path, graft}
use Rattle.eden_overlay_format.specs.Directory.{AreStorable}
use Rattle.eden_overlay.specs.Files.{Stored}
use Rattle.eden_overlay.specs.Held.{with_entries}
use Rattle.eden_tree.specs.Directory.{Row, Directory, child_of, with_child}
use Rattle.eden_tree.specs.Paths.{row_at, edit_row}
use Rattle.eden_tree.proofs.CallerLemmas.{child_of-with_child, edits_alike}
use Rattle.eden_coupling.specs.Chains.{IsLoadedAt, NoneMarked, StaysLoaded, Above, Unfinished, listed, Refused, at_first, later}
use Rattle.eden_coupling.specs.Changing.{changed, with_listing}
use Rattle.eden_coupling.specs.Kept.{IsTable, IsKept}
use Rattle.eden_coupling.specs.Listings.{listing_of}
use Rattle.eden_coupling.specs.Shown.{shown_in}
use Rattle.eden_coupling.specs.ShownLaws.{shown_from}
use Rattle.eden_coupling.specs.Standing.{MayStand}
use Rattle.eden_coupling.proofs.CallerLemmas.{at_changed, loaded_there, above_back, unfinished_back, refused_kept, refused_alike, stands_sound, put_sound, stands_table, stands_marks, stands_stays}
use Rattle.eden_coupling.proofs.CallerLemmas.{stands_kept, stands_grafts}
use Rattle.eden_inode.specs.Listed.{DiffersAt}
use Rattle.eden_materialise.specs.Chains.{StaySound}
use Rattle.eden_materialise.specs.Listings.{IsHeldFor, ChangesEntry}
use Rattle.eden_materialise.specs.Moves.{changed_in, IsPutAt}
use Rattle.eden_materialise.specs.Puts.{AtDirectory}
use Rattle.eden_materialise.proofs.Order.{changed_held}

-- what holds of the directory at a path
pub at_directory : (p : Path) (x y : Row) (d : Directory) (P : Row → Directory → Type 0) → row_at p x ≡ Some y → child_of y ≡ Some d → P y d → AtDirectory p x P
at_directory p x y d P at h holds v e at_v h_v =
    let row : y ≡ v = same_Some y v (sym at ∙ at_v) in
    let dir : d ≡ e = same_Some d e (sym h ∙ ap child_of row ∙ h_v) in
    subst (λ (c : Directory). P v c) dir (subst (λ (r : Row). P r d) row holds)

module _ (honest : Type 0) (R : Repository) (F : Stored) (x : Row) (p : Path) (n : Name) (o : Option Row) (held : IsHeldFor honest R F x p n o) where
  abbrev may : MayStand honest R F x held.next p n o
  may = held.may

  abbrev pub new : Directory
  new = changed held.may.directory n o

  pub held_loaded : IsLoadedAt p x
  held_loaded = loaded_there p x may.row may.directory may.at may.holds

  -- ---- stored without the entry, before memory is

  pub drop_can : AtDirectory p x (λ y d. AreStorable (listing_of (changed d n o)))
  drop_can = at_directory p x may.row may.directory (λ y d. AreStorable (listing_of (changed d n o))) may.at may.holds may.storable

  pub drop_sound : honest → AtDirectory p x (λ y d. StaySound (with_entries F y.number (listing_of (changed d n o))) x p)
  drop_sound h = at_directory p x may.row may.directory (λ y d. StaySound (with_entries F y.number (listing_of (changed d n o))) x p) may.at may.holds
      (stands_sound honest R F x held.next p n o held.table may h (held.kept h))

  pub drop_refused : (G : Stored) → (G ≡ F) ⊎ Unfinished (with_entries F may.row.number (listing_of new)) x p G → Refused F x p G
  drop_refused G (inl same) = at_first same
  drop_refused G (inr u) = later may.row may.directory (with_entries F may.row.number (listing_of new)) may.at may.holds (listed (listing_of new) may.storable refl) u

  pub drop_differs : DiffersAt n F may.row.number (listing_of new) → AtDirectory p x (λ y d. DiffersAt n F y.number (listing_of (changed d n o)))
  drop_differs told = at_directory p x may.row may.directory (λ y d. DiffersAt n F y.number (listing_of (changed d n o))) may.at may.holds told

  -- the table with it there, or without it
  pub changed_is : (d : Directory) (y : Row) → row_at p x ≡ Some y → child_of y ≡ Some d → edit_row p (changed_in n o) x ≡ with_listing p (changed d n o) x
  changed_is d y at h = sym (edits_alike p (with_child (Some (changed d n o))) (changed_in n o) x y at (sym (changed_held n o y d h)))

  -- ---- stored with it, once memory has it

  abbrev then : Row
  then = with_listing p new x

  then_at : row_at p then ≡ Some (with_child (Some new) may.row)
  then_at = at_changed p (with_child (Some new)) x may.row may.at

  then_holds : child_of (with_child (Some new) may.row) ≡ Some new
  then_holds = child_of-with_child (Some new) may.row

  pub then_loaded : IsLoadedAt p then
  then_loaded = loaded_there p then (with_child (Some new) may.row) new then_at then_holds

  pub put_can_be : AtDirectory p then (λ y d. AreStorable (listing_of d))
  put_can_be = at_directory p then (with_child (Some new) may.row) new (λ y d. AreStorable (listing_of d)) then_at then_holds may.storable

  pub put_differs : DiffersAt n F may.row.number (listing_of new) → AtDirectory p then (λ y d. DiffersAt n F y.number (listing_of d))
  put_differs told = at_directory p then (with_child (Some new) may.row) new (λ y d. DiffersAt n F y.number (listing_of d)) then_at then_holds told

  pub put_stays_sound : honest → AtDirectory p then (λ y d. StaySound (with_entries F y.number (listing_of d)) then p)
  put_stays_sound h = at_directory p then (with_child (Some new) may.row) new (λ y d. StaySound (with_entries F y.number (listing_of d)) then p) then_at then_holds
      (put_sound honest R F x held.next p n o held.table may h (held.kept h))

  pub put_above : (G : Stored) → AtDirectory p then (λ y d. Above (with_entries F y.number (listing_of d)) then p G)
      → AtDirectory p x (λ y d. Above (with_entries F y.number (listing_of (changed d n o))) x p G)
  put_above G told = at_directory p x may.row may.directory (λ y d. Above (with_entries F y.number (listing_of (changed d n o))) x p G) may.at may.holds
      (above_back p x may.row may.directory new may.at may.holds (with_entries F may.row.number (listing_of new)) G (told (with_child (Some new) may.row) new then_at then_holds))

  pub put_refused : (G : Stored) → AtDirectory p then (λ y d. (G ≡ F) ⊎ Unfinished (with_entries F y.number (listing_of d)) then p G) → Refused F x p G
  put_refused G told = elim (told (with_child (Some new) may.row) new then_at then_holds) [
    | inl same ↦ at_first same
    | inr u ↦ drop_refused G (inr (unfinished_back p x may.row may.directory new may.at may.holds (with_entries F may.row.number (listing_of new)) G u))
  ]

-- memory, once an entry is put there
pub put_is : (p : Path) (n : Name) (w : Row) (entry : Option Row) (mark : _) (x z : Row) (y : Row) (d : Directory) → row_at p x ≡ Some y → child_of y ≡ Some d
    → IsPutAt p n w entry mark x z → z ≡ with_listing p (changed d n (Some w)) x
put_is p n w entry mark x z y d at h put =
    let row : put.before ≡ y = same_Some put.before y (sym put.at ∙ at) in
    let dir : put.put.directory ≡ d = same_Some put.put.directory d (sym put.put.holds ∙ ap child_of row ∙ h) in
    put.is ∙ edits_alike p (λ _. put.after) (with_child (Some (changed d n (Some w)))) x put.before put.at
    (put.put.is ∙ ap (λ (a : Directory). with_child (Some (changed a n (Some w))) put.before) dir)

-- ---- the table then

module _ (honest : Type 0) (R : Repository) (p : Path) (n : Name) (o : Option Row) (F : Stored) (x : Row) (old : ℕ) (G : Stored) (z : Row) (new : ℕ) (next : ℕ) (table : IsTable x next)
    (may : MayStand honest R F x next p n o) where
  pub changes_table : (answer : Result (Unit {0}) Fault) → ChangesEntry honest p n o F x old G z new answer → IsTable z next
  changes_table (Ok u) c = subst (λ (r : Row). IsTable r next) (sym (c.ok may.row may.directory may.at may.holds)) (stands_table honest R F x next p n o table may)
  changes_table (Err e) c = subst (λ (r : Row). IsTable r next) (sym c.err) table

  pub changes_marks : (answer : Result (Unit {0}) Fault) → ChangesEntry honest p n o F x old G z new answer → NoneMarked x z
  changes_marks (Ok u) c = subst (NoneMarked x) (sym (c.ok may.row may.directory may.at may.holds)) (stands_marks honest R F x next p n o table may)
  changes_marks (Err e) c = subst (NoneMarked x) (sym c.err) (λ q unsaved. unsaved)

  pub changes_stay : (answer : Result (Unit {0}) Fault) → ChangesEntry honest p n o F x old G z new answer → StaysLoaded x z
  changes_stay (Ok u) c = subst (StaysLoaded x) (sym (c.ok may.row may.directory may.at may.holds)) (stands_stays honest R F x next p n o table may)
  changes_stay (Err e) c = subst (StaysLoaded x) (sym c.err) (λ q there. there)

  module _ (h : honest) (k : IsKept R F x next) where
    pub changes_kept_then : (answer : Result (Unit {0}) Fault) → ChangesEntry honest p n o F x old G z new answer → IsKept R G z next
    changes_kept_then (Ok u) c =
        subst (λ (r : Row). IsKept R G r next) (sym (c.ok may.row may.directory may.at may.holds))
        (stands_kept honest R F x next p n o h table k may G (c.stored h may.row may.directory may.at may.holds))
    changes_kept_then (Err e) c = subst (λ (r : Row). IsKept R G r next) (sym c.err) (refused_kept R F x next p G table k (c.strays h))

    pub changes_shown : (answer : Result (Unit {0}) Fault) → ChangesEntry honest p n o F x old G z new answer
        → OnOk answer (shown_in R G z ≡ graft (p ++ n ∷ []) (shown_from R G o) (shown_in R F x))
    changes_shown (Ok u) c =
        ap (λ (r : Row). shown_in R G r) (c.ok may.row may.directory may.at may.holds)
        ∙ stands_grafts honest R F x next p n o h table k may G (c.stored h may.row may.directory may.at may.holds)
    changes_shown (Err e) c = tt

    pub changes_unseen : (answer : Result (Unit {0}) Fault) → ChangesEntry honest p n o F x old G z new answer → OnErr answer (shown_in R G z ≡ shown_in R F x)
    changes_unseen (Ok u) c = tt
    changes_unseen (Err e) c = ap (λ (r : Row). shown_in R G r) c.err ∙ refused_alike R F x next p G table k (c.strays h)
