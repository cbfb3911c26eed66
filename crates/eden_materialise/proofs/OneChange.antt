-- A directory of which one entry changes, as it is stored.
use Rattle.std.proofs.Common.{◌≡◌, ℕ, true, false, cond, List, [], ◌∷◌, map, Option, IfSome, Some, None, refl, sym, ap, ◌∙◌, subst}
use Rattle.std.specs.declared.cmp.Ordering.TheVariants.{Less}
use Rattle.std.specs.Ordering.{is_lt}
use Rattle.std.specs.Str.{bytes_eq}
use Rattle.std.specs.List.{AllByRecursion}
use Rattle.std.specs.List.Sorted.{IsStrictlySortedBy}
use Rattle.std.specs.Cmp.Lexicographic.{nat_list_cmp_total}
use Rattle.std.specs.Map.{keys_of}
use Rattle.std.specs.Option.{option_map}
use Rattle.std.proofs.lemmas.Option.{none-some}
use Rattle.eden_model.specs.declared.kind.Origin.{Origin}
use Rattle.eden_model.specs.declared.kind.Origin.TheVariants as origin
use Rattle.eden_model.specs.Named.{AreRising, named}
use Rattle.eden_model.specs.Operations.{name_lt}
use Rattle.eden_model.specs.Repository.{Repository}
use Rattle.eden_model.specs.Trees.{Name, Path}
use Rattle.eden_overlay_format.specs.Changing.{entries_with}
use Rattle.eden_overlay_format.specs.Directory.{is_own}
use Rattle.eden_overlay_format.specs.declared.stored_entry.StoredEntry.{StoredEntry}
use Rattle.eden_overlay.specs.Files.{Stored}
use Rattle.eden_overlay.specs.Held.{HoldsEntries}
use Rattle.eden_tree.specs.Directory.{Row, Directory}
use Rattle.eden_tree.specs.Rows.{find_row, put_row, drop_row, set_row}
use Rattle.eden_tree.proofs.CallerLemmas.{order, same-≡, same-refl, same-less, lt-less, lt-≡, beyond, same-sym, IsBelow, first_below, others, drop_row-absent, find_row-put_row, find_row-set_row}
use Rattle.eden_tree.proofs.CallerLemmas.{find_row-drop_row, AreRising-put_row, change_row-found, keys_of-change_row}
use Rattle.eden_coupling.specs.Changing.{changed, placed, rows_with, with_listing}
use Rattle.eden_coupling.specs.Listings.{Place, stored_entry, listing_of}
use Rattle.eden_coupling.specs.Ties.{Ties}
use Rattle.eden_coupling.proofs.CallerLemmas.{gone_after, stored_rising, place_at}
use Rattle.eden_inode.specs.Listed.{DiffersAt}
use Rattle.eden_materialise.specs.Chains.{IsOwnAndSaved, IsListedIfSaved}
use Rattle.eden_materialise.specs.Listings.{IsHeldFor}
use Rattle.eden_materialise.specs.Puts.{AtDirectory}
use Rattle.eden_materialise.proofs.Listings.{drop_differs, put_differs}

-- ---- names in order

-- a name that isn't less than the first of rising names, nor that one, is below all of them
below_rest : (n m : Name) (ks : List Name) → order n m ≡ Less → AllByRecursion (λ k. order m k ≡ Less) ks → AllByRecursion (λ k. order n k ≡ Less) ks
below_rest n m [] h all = tt
below_rest n m (k ∷ ks) h all = (nat_list_cmp_total.trans n m k h all.0, below_rest n m ks h all.1)

absent_below : (n : Name) (es : List (Name × Row)) → IsBelow n es → find_row n es ≡ None
absent_below n [] below = refl
absent_below n (e ∷ es) below = ap (λ b. cond b (Some e.1) (find_row n es)) (same-sym e.0 n (same-less n e.0 below.0)) ∙ absent_below n es below.1

absent_before : (n : Name) (e : Name × Row) (es : List (Name × Row)) → AreRising (λ r. r.0) (e ∷ es) → name_lt e.0 n ≡ false → bytes_eq n e.0 ≡ false → find_row n es ≡ None
absent_before n e es rising l s = absent_below n es (below_rest n e.0 (keys_of es) (beyond e.0 n l (same-sym n e.0 s)) (first_below e es rising))

-- a name behind another is another
other_behind : (n m : Name) → name_lt m n ≡ true → bytes_eq n m ≡ false
other_behind n m l = same-less m n (lt-≡ m n l)

-- ---- entries with one of them changed

module _ (n : Name) where
  abbrev stored : List (Name × Row) → List StoredEntry
  stored rows = map stored_entry rows

  -- past one of a name before it
  step : (o : Option StoredEntry) (e : Name × Row) (es : List (Name × Row)) → name_lt e.0 n ≡ true → entries_with n o (stored (e ∷ es)) ≡ stored_entry e ∷ entries_with n o (stored es)
  step o e es l = rw l refl

  left : (rows : List (Name × Row)) → AreRising (λ r. r.0) rows → entries_with n None (stored rows) ≡ stored (drop_row n rows)
  left [] rising = refl
  left (e ∷ es) rising =
      elim (name_lt e.0 n) as (λ b. name_lt e.0 n ≡ b → entries_with n None (stored (e ∷ es)) ≡ stored (drop_row n (e ∷ es))) [
        | true ↦ λ l. step None e es l ∙ ap (λ r. stored_entry e ∷ r) (left es (others e es rising)) ∙ rw (other_behind n e.0 l) refl
        | false ↦ λ l. elim (bytes_eq n e.0) as (λ b. bytes_eq n e.0 ≡ b → entries_with n None (stored (e ∷ es)) ≡ stored (drop_row n (e ∷ es))) [
          | true ↦ λ s. rw l (rw s refl)
          | false ↦ λ s. rw l (rw s (ap (λ r. stored_entry e ∷ stored r) (sym (drop_row-absent n es (absent_before n e es rising l s)))))
        ] refl
      ] refl

  module _ (x : Row) where
    abbrev new : StoredEntry
    new = stored_entry (n, x)

    replaced : (w : Row) (rows : List (Name × Row)) → AreRising (λ r. r.0) rows → find_row n rows ≡ Some w → entries_with n (Some new) (stored rows) ≡ stored (set_row n x rows)
    replaced w [] rising h = absurd (none-some w h)
    replaced w (e ∷ es) rising h =
        elim (name_lt e.0 n) as (λ b. name_lt e.0 n ≡ b → entries_with n (Some new) (stored (e ∷ es)) ≡ stored (set_row n x (e ∷ es))) [
          | true ↦ λ l. (let s = other_behind n e.0 l in
              step (Some new) e es l ∙ ap (λ r. stored_entry e ∷ r) (replaced w es (others e es rising) (ap (λ b. cond b (Some e.1) (find_row n es)) (sym s) ∙ h)) ∙ rw s refl)
          | false ↦ λ l. elim (bytes_eq n e.0) as (λ b. bytes_eq n e.0 ≡ b → entries_with n (Some new) (stored (e ∷ es)) ≡ stored (set_row n x (e ∷ es))) [
            | true ↦ λ s. rw l (rw s (ap (λ m. stored_entry (m, x) ∷ stored es) (same-≡ n e.0 s)))
            | false ↦ λ s. absurd (none-some w (sym (absent_before n e es rising l s) ∙ ap (λ b. cond b (Some e.1) (find_row n es)) (sym s) ∙ h))
          ] refl
        ] refl

    added : (rows : List (Name × Row)) → AreRising (λ r. r.0) rows → find_row n rows ≡ None → entries_with n (Some new) (stored rows) ≡ stored (put_row n x rows)
    added [] rising h = refl
    added (e ∷ es) rising h =
        elim (name_lt e.0 n) as (λ b. name_lt e.0 n ≡ b → entries_with n (Some new) (stored (e ∷ es)) ≡ stored (put_row n x (e ∷ es))) [
          | true ↦ λ l. (let s = other_behind n e.0 l in
              step (Some new) e es l ∙ ap (λ r. stored_entry e ∷ r) (added es (others e es rising) (ap (λ b. cond b (Some e.1) (find_row n es)) (sym s) ∙ h))
              ∙ rw (lt-less e.0 n (lt-≡ e.0 n l)) refl)
          | false ↦ λ l. elim (bytes_eq n e.0) as (λ b. bytes_eq n e.0 ≡ b → entries_with n (Some new) (stored (e ∷ es)) ≡ stored (put_row n x (e ∷ es))) [
            | true ↦ λ s. absurd (none-some e.1 (sym h ∙ ap (λ b. cond b (Some e.1) (find_row n es)) s))
            | false ↦ λ s. rw l (rw s (rw (ap is_lt (beyond e.0 n l (same-sym n e.0 s))) refl))
          ] refl
        ] refl

    put_so : (o : Option Row) (rows : List (Name × Row)) → AreRising (λ r. r.0) rows → find_row n rows ≡ o → entries_with n (Some new) (stored rows) ≡ stored (placed o n x rows)
    put_so None rows rising h = added rows rising h
    put_so (Some w) rows rising h = replaced w rows rising h

  pub with_one : (o : Option Row) (rows : List (Name × Row)) → AreRising (λ r. r.0) rows
      → entries_with n (option_map (λ z. stored_entry (n, z)) o) (stored rows) ≡ stored (rows_with n o rows)
  with_one None rows rising = left rows rising
  with_one (Some x) rows rising = put_so x (find_row n rows) rows rising refl

  -- ---- and which is the one of that name

  found : (o : Option Row) (rows : List (Name × Row)) → find_row n rows ≡ o → named (λ (e : StoredEntry). e.name) n (stored rows) ≡ option_map (λ z. stored_entry (n, z)) o
  found None [] h = refl
  found (Some w) [] h = absurd (none-some w h)
  found o (e ∷ es) h =
      elim (bytes_eq n e.0) as (λ b. bytes_eq n e.0 ≡ b → cond b (Some e.1) (find_row n es) ≡ o
      → cond b (Some (stored_entry e)) (named (λ (e : StoredEntry). e.name) n (stored es)) ≡ option_map (λ z. stored_entry (n, z)) o) [
        | true ↦ λ s k. ap (λ m. Some (stored_entry (m, e.1))) (sym (same-≡ n e.0 s)) ∙ ap (option_map (λ z. stored_entry (n, z))) k
        | false ↦ λ s k. found o es k
      ] refl h

  then_there : (x : Row) (o : Option Row) (rows : List (Name × Row)) → find_row n rows ≡ o → find_row n (placed o n x rows) ≡ Some x
  then_there x None rows h = find_row-put_row n n x rows h ∙ ap (λ b. cond b (Some x) (find_row n rows)) (same-refl n)
  then_there x (Some w) rows h = find_row-set_row n n x w rows h ∙ ap (λ b. cond b (Some x) (find_row n rows)) (same-refl n)

  then_found : (o : Option Row) (rows : List (Name × Row)) → AreRising (λ r. r.0) rows → find_row n (rows_with n o rows) ≡ o
  then_found None rows rising = gone_after n rows rising
  then_found (Some x) rows rising = then_there x (find_row n rows) rows refl

  pub one_changed : (o : Option Row) (d : Directory) → AreRising (λ r. r.0) d.rows
      → entries_with n (named (λ (e : StoredEntry). e.name) n (listing_of (changed d n o))) (listing_of d) ≡ listing_of (changed d n o)
  one_changed o d rising =
      ap (λ e. entries_with n e (listing_of d)) (found o (rows_with n o d.rows) (then_found o d.rows rising)) ∙ with_one o d.rows rising

  rising_placed : (x : Row) (o : Option Row) (rows : List (Name × Row)) → AreRising (λ r. r.0) rows → find_row n rows ≡ o → AreRising (λ r. r.0) (placed o n x rows)
  rising_placed x None rows rising h = AreRising-put_row n x rows h rising
  rising_placed x (Some w) rows rising h =
      subst (λ (r : List (Name × Row)). AreRising (λ r. r.0) r) (change_row-found n (λ _. x) w rows h) (subst (IsStrictlySortedBy order) (sym (keys_of-change_row n (λ _. x) rows)) rising)

-- an entry renamed within one directory: put under its new name m, and taken from the old one
module _ (n m : Name) (x : Row) (d : Directory) (rising : AreRising (λ r. r.0) d.rows) (differ : bytes_eq m n ≡ false) where
  abbrev both : Directory
  both = changed d m (Some x)

  rising_both : AreRising (λ r. r.0) both.rows
  rising_both = rising_placed m x (find_row m d.rows) d.rows rising refl

  new_there : find_row m (changed both n None).rows ≡ Some x
  new_there = find_row-drop_row m n both.rows rising_both ∙ ap (λ b. cond b None (find_row m both.rows)) differ ∙ then_found m (Some x) d.rows rising

  pub one_renamed : entries_with n None (entries_with m (named (λ (e : StoredEntry). e.name) m (listing_of (changed both n None))) (listing_of d)) ≡ listing_of (changed both n None)
  one_renamed =
      ap (λ e. entries_with n None (entries_with m e (listing_of d))) (found m (Some x) (changed both n None).rows new_there)
      ∙ ap (entries_with n None) (with_one m (Some x) d.rows rising) ∙ with_one n None both.rows rising_both

-- ---- the file of a directory of the mount's own, saved

own_is : (o : Origin) → is_own o ≡ true → o ≡ origin.Own
own_is (origin.Object id) h = absurd cc
own_is origin.Own h = refl
own_is origin.Empty h = absurd cc

pub listed_if_saved : (F full : Stored) (x : Row) (next : ℕ) → Ties F full x next → (p : Path) → AtDirectory p x (IsListedIfSaved F)
listed_if_saved F full x next t p y d at h is =
    let file = t.stored y d (place_at p x y at) h (own_is y.origin is.0) in
    subst (HoldsEntries F y.number) (file.all is.1) file.held

module _ (honest : Type 0) (R : Repository) (F : Stored) (x : Row) (p : Path) (n : Name) (o : Option Row) (held : IsHeldFor honest R F x p n o)
    (own : is_own held.may.row.origin ≡ true) (saved : held.may.directory.unsaved ≡ false) (h : honest) where
  abbrev y : Row
  y = held.may.row

  abbrev d : Directory
  d = held.may.directory

  place : Place x y
  place = place_at p x y held.may.at

  was_listed : HoldsEntries F y.number (listing_of d)
  was_listed = let k = held.kept h in listed_if_saved F k.full x held.next k.ties p y d held.may.at held.may.holds (own, saved)

  -- .. holds what it is to hold but for that entry
  differs : DiffersAt n F y.number (listing_of (changed d n o))
  differs = (listing_of d, was_listed, one_changed n o d (stored_rising d (held.table.listed y d place held.may.holds)))

-- where a name is told of such a directory, it is the one in which its file differs from what is to be stored
module _ (honest : Type 0) (R : Repository) (F : Stored) (x : Row) (p : Path) (n : Name) (o : Option Row) (held : IsHeldFor honest R F x p n o) (h : honest) where
  differs_then : AtDirectory p x IsOwnAndSaved → DiffersAt n F held.may.row.number (listing_of (changed held.may.directory n o))
  differs_then at =
      let is = at held.may.row held.may.directory held.may.at held.may.holds in
      differs honest R F x p n o held is.0 is.1 h

  pub drop_told : {T : Type 0} (view : T → Name) (a : Option T) → IfSome a (λ t. (view t ≡ n) × AtDirectory p x IsOwnAndSaved)
      → IfSome a (λ t. AtDirectory p x (λ y d. DiffersAt (view t) F y.number (listing_of (changed d n o))))
  drop_told view None told = tt
  drop_told view (Some t) told =
      subst (λ (m : Name). AtDirectory p x (λ y d. DiffersAt m F y.number (listing_of (changed d n o)))) (sym told.0) (drop_differs honest R F x p n o held (differs_then told.1))

  pub put_told : {T : Type 0} (view : T → Name) (a : Option T) → IfSome a (λ t. (view t ≡ n) × AtDirectory p x IsOwnAndSaved)
      → IfSome a (λ t. AtDirectory p (with_listing p (changed held.may.directory n o) x) (λ y d. DiffersAt (view t) F y.number (listing_of d)))
  put_told view None told = tt
  put_told view (Some t) told =
      subst (λ (m : Name). AtDirectory p (with_listing p (changed held.may.directory n o) x) (λ y d. DiffersAt m F y.number (listing_of d))) (sym told.0)
      (put_differs honest R F x p n o held (differs_then told.1))
