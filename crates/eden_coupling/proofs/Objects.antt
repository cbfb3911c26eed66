-- The rows of a directory as it was loaded.
use Rattle.std.proofs.Common.{◌≡◌, ◌≢◌, ◌≤◌, ◌<◌, ◌+◌, ℕ, zero, suc, List, [], ◌∷◌, length, map, Some, None, Contains, refl, sym, ap, ◌∙◌, subst, arith}
use Rattle.std.specs.Option.{option_map}
use Rattle.std.proofs.lemmas.Option.{same_Some, none-some}
use Rattle.eden_model.specs.declared.id.Id.{Id}
use Rattle.eden_model.specs.declared.kind.Mode.{Mode}
use Rattle.eden_model.specs.declared.kind.Mode.TheVariants as mode
use Rattle.eden_model.specs.declared.kind.Origin.{Origin}
use Rattle.eden_model.specs.declared.kind.Origin.TheVariants as origin
use Rattle.eden_model.specs.declared.tree_entry.TreeEntry.{TreeEntry}
use Rattle.eden_model.specs.Trees.{Name}
use Rattle.eden_model.specs.Shown.{Item, Items}
use Rattle.eden_model.specs.Repository.{Repository, Source, Own, source_of, item_by, entry_named, items_of, entries_with, no_files}
use Rattle.eden_overlay_format.specs.declared.stored_entry.StoredEntry.{StoredEntry}
use Rattle.eden_overlay_format.specs.Directory.{AreStorable}
use Rattle.eden_overlay.specs.Files.{Stored}
use Rattle.eden_overlay.specs.Soundness.{Names, IsLive}
use Rattle.eden_tree.specs.Directory.{Row, Directory, directory_in, child_of}
use Rattle.eden_tree.specs.Rows.{find_row}
use Rattle.eden_tree.proofs.CallerLemmas.{find_row-Contains, Contains-find_row}
use Rattle.eden_coupling.specs.Listings.{stored_entry, listing_of}
use Rattle.eden_coupling.specs.Loading.{AreNumbered, AreUnloaded, HasObject}
use Rattle.eden_coupling.specs.Shown.{item_away, IsFrom}
use Rattle.eden_coupling.specs.Unloading.{HasNoneInside}
use Rattle.eden_coupling.proofs.Rows.{mapped_from, map_some, stored_rising}
use Rattle.eden_coupling.proofs.Grown.{AreFresh, none_in}

-- ---- none is loaded

none_there : (rows : List (Name × Row)) → AreUnloaded rows → (e : Name × Row) → Contains rows e → child_of e.1 ≡ None
none_there [] all e (i, w, is) = absurd (omega (arith, w))
none_there (a ∷ rows) all e (zero, w, is) = ap child_of (sym (ap (λ (r : Name × Row). r.1) is)) ∙ ap directory_in all.0
none_there (a ∷ rows) all e (suc i, w, is) = none_there rows all.1 e (i, omega (arith, w), is)

pub none_inside : (d : Directory) → AreUnloaded d.rows → HasNoneInside d
none_inside d all n z f = none_there d.rows all (n, z) (Contains-find_row n d.rows z f)

-- ---- the numbers

numbered_at : (k : ℕ) (rows : List (Name × Row)) → AreNumbered k rows → (e : Name × Row) → Contains rows e → (k ≤ e.1.number) × (e.1.number < k + length rows)
numbered_at k [] all e (i, w, is) = absurd (omega (arith, w))
numbered_at k (a ∷ rows) all e (zero, w, is) =
    let same : a.1.number ≡ e.1.number = ap (λ (r : Name × Row). r.1.number) is in
    let first : a.1.number ≡ k = all.0 in
    (omega (arith, same, first), omega (arith, same, first))
numbered_at k (a ∷ rows) all e (suc i, w, is) =
    let rest = numbered_at (suc k) rows all.1 e (i, omega (arith, w), is) in
    let least = rest.0 in
    let most = rest.1 in
    (omega (arith, least), omega (arith, most))

numbered_apart : (k : ℕ) (rows : List (Name × Row)) → AreNumbered k rows → (e f : Name × Row) → Contains rows e → Contains rows f → e.1.number ≡ f.1.number → e ≡ f
numbered_apart k [] all e f (i, w, is) g same = absurd (omega (arith, w))
numbered_apart k (a ∷ rows) all e f (zero, w, is) (zero, v, eq) same = sym is ∙ eq
numbered_apart k (a ∷ rows) all e f (zero, w, is) (suc j, v, eq) same =
    let first : a.1.number ≡ k = all.0 in
    let one : a.1.number ≡ e.1.number = ap (λ (r : Name × Row). r.1.number) is in
    let later = (numbered_at (suc k) rows all.1 f (j, omega (arith, v), eq)).0 in
    absurd (omega (arith, first, one, later, same))
numbered_apart k (a ∷ rows) all e f (suc i, w, is) (zero, v, eq) same =
    let first : a.1.number ≡ k = all.0 in
    let one : a.1.number ≡ f.1.number = ap (λ (r : Name × Row). r.1.number) eq in
    let later = (numbered_at (suc k) rows all.1 e (i, omega (arith, w), is)).0 in
    absurd (omega (arith, first, one, later, same))
numbered_apart k (a ∷ rows) all e f (suc i, w, is) (suc j, v, eq) same = numbered_apart (suc k) rows all.1 e f (i, omega (arith, w), is) (j, omega (arith, v), eq) same

-- ---- an object's entries

-- an object's entry isn't its own
not_own_by : (m : Mode) (id : Id) (k : ℕ) → (item_by m id).source ≡ Own k → ⊥
not_own_by mode.File id k is = cc
not_own_by mode.Exec id k is = cc
not_own_by mode.Link id k is = cc
not_own_by mode.Dir id k is = cc
not_own_by mode.Gitlink id k is = cc

module _ (next : ℕ) (es : List TreeEntry) (d : Directory) (has : HasObject next es d) (are : AreStorable (listing_of d)) where
  not_own : (n : Name) (z : Row) → find_row n d.rows ≡ Some z → z.origin ≢ origin.Own
  not_own n z f own =
      let from = map_some (λ (e : TreeEntry). item_by e.mode e.id) (entry_named n es) (item_away z) (ap (option_map item_away) (sym f) ∙ has.items n) in
      not_own_by from.0.mode from.0.id z.number (ap (λ (i : Item Source). i.source) from.1.1 ∙ ap (λ o. source_of z.number o) own)

  pub object_fresh : (full : Stored) → ((c : ℕ) (e : StoredEntry) → IsLive full c → Names full c e → e.number < next) → AreFresh full (next + length es) (listing_of d)
  object_fresh full below = record {
    quiet = λ f there own.
        (let from = mapped_from stored_entry d.rows f there in
        not_own from.0.0 from.0.1 (find_row-Contains from.0.0 d.rows from.0.1 (stored_rising d are) from.1.0) (ap (λ (e : StoredEntry). e.origin) from.1.1 ∙ own));
    free = λ f there c e r n same.
        (let from = mapped_from stored_entry d.rows f there in
        let at = (numbered_at next d.rows has.numbered from.0 from.1.0).0 in
        let is : from.0.1.number ≡ f.number = ap (λ (e : StoredEntry). e.number) from.1.1 in
        let less = below c e r n in
        absurd (omega (arith, at, is, less, same)));
    most = λ f there.
        (let from = mapped_from stored_entry d.rows f there in
        let at = (numbered_at next d.rows has.numbered from.0 from.1.0).1 in
        let is : from.0.1.number ≡ f.number = ap (λ (e : StoredEntry). e.number) from.1.1 in
        let count = has.count in
        omega (arith, at, is, count));
    distinct = λ e f in_e in_f same.
        (let a = mapped_from stored_entry d.rows e in_e in
        let b = mapped_from stored_entry d.rows f in_f in
        let number : a.0.1.number ≡ b.0.1.number = ap (λ (s : StoredEntry). s.number) a.1.1 ∙ same ∙ sym (ap (λ (s : StoredEntry). s.number) b.1.1) in
        sym a.1.1 ∙ ap stored_entry (numbered_apart next d.rows has.numbered a.0 b.0 a.1.0 b.1.0 number) ∙ b.1.1);
  }

-- where the object is had, that is what it would be loaded from
pub object_from : (R : Repository) (k : ℕ) (id : Id) (es : List TreeEntry) (y : Row) (d : Directory) → y.origin ≡ origin.Object id → R.tree id ≡ Some es → HasObject k es d
    → IsFrom R no_files y d
object_from R k id es y d is tree has = record {
  items = items_of es;
  had = ap (λ o. entries_with R no_files (source_of y.number o)) is ∙ ap (option_map items_of) tree;
  each = has.items;
}

-- ---- what is loaded from no file

-- no entry of it is its own
not_own_from : (R : Repository) (k : ℕ) (o : Origin) → o ≢ origin.Own → (items : Items Source) → entries_with R no_files (source_of k o) ≡ Some items
    → (n : Name) (i : Item Source) → items n ≡ Some i → (j : ℕ) → i.source ≡ Own j → ⊥
not_own_from R k (origin.Object id) other items had n i is j own =
    let t = map_some items_of (R.tree id) items (sym had) in
    let e = map_some (λ (a : TreeEntry). item_by a.mode a.id) (entry_named n t.0) i (sym is ∙ ap (λ (es : Items Source). es n) (sym t.1.1)) in
    not_own_by e.0.mode e.0.id j (ap (λ (s : Item Source). s.source) e.1.1 ∙ own)
not_own_from R k origin.Own other items had n i is j own = other refl
not_own_from R k origin.Empty other items had n i is j own =
    none-some i (ap (λ (es : Items Source). es n) (same_Some (λ m. None) items had) ∙ is)

pub none_own : (R : Repository) (y : Row) (d : Directory) → AreStorable (listing_of d) → y.origin ≢ origin.Own → IsFrom R no_files y d
    → (f : StoredEntry) → Contains (listing_of d) f → f.origin ≢ origin.Own
none_own R y d are other from f there own =
    let a = mapped_from stored_entry d.rows f there in
    let z = a.0.1 in
    let found : find_row a.0.0 d.rows ≡ Some z = find_row-Contains a.0.0 d.rows z (stored_rising d are) a.1.0 in
    let mine : z.origin ≡ origin.Own = ap (λ (e : StoredEntry). e.origin) a.1.1 ∙ own in
    not_own_from R y.number y.origin other from.items from.had a.0.0 (item_away z) (sym (from.each a.0.0) ∙ ap (option_map item_away) found) z.number
    (ap (λ (o : Origin). source_of z.number o) mine)

-- ---- an empty directory

pub empty_fresh : (full : Stored) (next : ℕ) (d : Directory) → d.rows ≡ [] → AreFresh full next (listing_of d)
empty_fresh full next d is =
    let P : List StoredEntry → Type 0 = λ es. AreFresh full next es in
    subst P (sym (ap (map stored_entry) is)) (record {
      quiet = λ f there. absurd (none_in f there);
      free = λ f there. absurd (none_in f there);
      most = λ f there. absurd (none_in f there);
      distinct = λ e f there. absurd (none_in e there);
    })

pub empty_from : (R : Repository) (y : Row) (d : Directory) → y.origin ≡ origin.Empty → d.rows ≡ [] → IsFrom R no_files y d
empty_from R y d is none = record {
  items = λ n. None;
  had = ap (λ o. entries_with R no_files (source_of y.number o)) is;
  each = λ n. ap (λ (rows : List (Name × Row)). option_map item_away (find_row n rows)) none;
}
