-- A table shows what the files would, were all that is loaded materialised.
use Rattle.std.proofs.Common.{◌≡◌, inl, inr, ℕ, zero, suc, true, false, cond, List, [], ◌∷◌, Contains, Some, None, refl, sym, ap, ◌∙◌, subst, arith}
use Rattle.std.proofs.lemmas.Option.{same_Some, none-some, option_and_then_some}
use Rattle.std.specs.Str.{bytes_eq}
use Rattle.std.specs.Option.{option_map, option_and_then}
use Rattle.eden_model.specs.declared.kind.Kind.{Kind}
use Rattle.eden_model.specs.declared.kind.Kind.TheVariants as kind
use Rattle.eden_model.specs.declared.kind.Mode.{Mode}
use Rattle.eden_model.specs.declared.kind.Mode.TheVariants as mode
use Rattle.eden_model.specs.declared.kind.Origin.{Origin}
use Rattle.eden_model.specs.declared.kind.Origin.TheVariants as origin
use Rattle.eden_model.specs.declared.id.Id.{Id}
use Rattle.eden_model.specs.declared.tree_entry.TreeEntry.{TreeEntry}
use Rattle.eden_model.specs.Named.{named}
use Rattle.eden_model.specs.Trees.{Name, Path}
use Rattle.eden_model.specs.Shown.{Item, Items, entry_in, shown, item_at}
use Rattle.eden_model.specs.Repository.{Repository, Source, Object, Own, Empty, source_of, item_by, entries_with, content_with, ground_with}
use Rattle.eden_model.specs.Repository.{items_of as objects_of}
use Rattle.eden_model.proofs.CallerLemmas.{sees_its_own}
use Rattle.eden_overlay_format.specs.declared.stored_entry.StoredEntry.{StoredEntry}
use Rattle.eden_overlay_format.specs.Values.{content_in, entries_in}
use Rattle.eden_overlay.specs.Files.{Stored}
use Rattle.eden_overlay.specs.Held.{content_at, entries_at, HoldsEntries, item_of, items_of, own_files}
use Rattle.eden_overlay.specs.Soundness.{Names, here, below, IsLive}
use Rattle.eden_overlay.proofs.CallerLemmas.{one_kind}
use Rattle.eden_tree.specs.Directory.{Row, child_of}
use Rattle.eden_coupling.specs.Listings.{own_if_loaded, full_entry, full_listing, Place, top, inside}
use Rattle.eden_coupling.specs.Shown.{item_away, shown_in}
use Rattle.eden_coupling.specs.ShownLaws.{full_item, ShowsFull}
use Rattle.eden_coupling.specs.Ties.{IsAway, SameFile, Fits, Ties}
use Rattle.eden_coupling.proofs.Rows.{own_loaded, as_is, map_some}
use Rattle.eden_coupling.proofs.Places.{named_full, place_counts, away_row, away_below}
use Rattle.eden_coupling.proofs.Chain.{root_loaded}
use Rattle.eden_coupling.proofs.Items.{items_listed}
use Rattle.eden_coupling.proofs.Alike.{shows_away}
use Rattle.eden_coupling.proofs.Listed.{shows_listed}

-- ---- files that are the same hold the same

same_entries : (F G : Stored) (k : ℕ) → SameFile F G k → entries_at F k ≡ entries_at G k
same_entries F G k (inl is) = ap (option_and_then entries_in) is
same_entries F G k (inr s) = s.1.0 ∙ sym s.1.1

-- a directory's file holds no content
no_content : (F : Stored) (k : ℕ) (es : List StoredEntry) → HoldsEntries F k es → content_at F k ≡ None
no_content F k es held = elim (content_at F k) as (λ o. content_at F k ≡ o → o ≡ None) [
  | None ↦ λ e. refl
  | Some c ↦ λ e. absurd (one_kind F k c es e held)
] refl

pub same_content : (F G : Stored) (k : ℕ) → SameFile F G k → content_at F k ≡ content_at G k
same_content F G k (inl is) = ap (option_and_then content_in) is
same_content F G k (inr s) = no_content F k s.0 s.1.0 ∙ sym (no_content G k s.0 s.1.1)

-- ---- where contents come from

-- from an own file: the number is the file's
own_source : (k q : ℕ) (o : Origin) → source_of k o ≡ Own q → (o ≡ origin.Own) × (k ≡ q)
own_source k q (origin.Object id) is = absurd (cc)
own_source k q origin.Own is = (refl, cc)
own_source k q origin.Empty is = absurd (cc)

-- no object's entry has an own file
pub objects_own : (m : Mode) (id : Id) (q : ℕ) → (item_by m id).source ≡ Own q → ⊥
objects_own mode.File id q is = absurd (cc)
objects_own mode.Exec id q is = absurd (cc)
objects_own mode.Link id q is = absurd (cc)
objects_own mode.Dir id q is = absurd (cc)
objects_own mode.Gitlink id q is = absurd (cc)

-- the entry of a name is one of the entries
named_there : (n : Name) (es : List StoredEntry) (e : StoredEntry) → named (λ (s : StoredEntry). s.name) n es ≡ Some e → Contains es e
named_there n [] e h = absurd (none-some e h)
named_there n (s ∷ es) e h = elim (bytes_eq n s.name) as (λ b. cond b (Some s) (named (λ (s : StoredEntry). s.name) n es) ≡ Some e → Contains (s ∷ es) e) [
  | true ↦ λ k. (zero, omega arith, same_Some s e k)
  | false ↦ λ k. (let rest = named_there n es e k in let within = rest.1 in (suc rest.0, omega (arith, within), rest.2))
] h

-- ---- the files `full`

-- The table stands in the files `full`, and the files F back it where it isn't loaded: what is its own there is the same in both.
pub record Backs (F full : Stored) (x : Row) (next : ℕ) : Type 0 where
  pub fits : Fits full x next
  pub same : (c : ℕ) (e : StoredEntry) → IsLive full c → Names full c e → e.origin ≡ origin.Own → IsAway x e.number → SameFile F full e.number
  pub same_root : child_of x ≡ None → SameFile F full 1

pub backs_tied : (F full : Stored) (x : Row) (next : ℕ) → Ties F full x next → Backs F full x next
backs_tied F full x next t = record { fits = t.fits; same = t.same; same_root = t.same_root }

module _ (R : Repository) (F full : Stored) (x : Row) (next : ℕ) (b : Backs F full x next) where
  -- file k is the same in both, and a directory's is live and not loaded
  abbrev IsSameAt : Kind → ℕ → Type 0
  IsSameAt t k = SameFile F full k × (t ≡ kind.Dir → (IsLive full k × IsAway x k))

  -- .. where it is the item's own
  abbrev IsSame : Item Source → Type 0
  IsSame i = (k : ℕ) → i.source ≡ Own k → IsSameAt i.kind k

  -- the contents then are the same too
  same_source : (s : Source) → ((k : ℕ) → s ≡ Own k → SameFile F full k)
      → (entries_with R (own_files F) s ≡ entries_with R (own_files full) s) × (content_with R (own_files F) s ≡ content_with R (own_files full) s)
  same_source (Object id) files = (refl, refl)
  same_source (Own k) files = (ap (option_map items_of) (same_entries F full k (files k refl)), same_content F full k (files k refl))
  same_source Empty files = (refl, refl)

  -- what a live directory that isn't loaded names is so too
  same_named : (q : ℕ) (e : StoredEntry) → IsLive full q → IsAway x q → Names full q e → IsSame (item_of e)
  same_named q e live away names k is =
      let own = own_source e.number k e.origin is in
      let off : IsAway x e.number = away_below full x next b.fits q e live names away in
      subst (IsSameAt e.kind) own.1 (b.same q e live names own.0 off, λ dir. (below q e live names (dir, own.0), off))

  -- and what an item shows below itself
  same_listed : (s : Source) (n : Name) (j : Item Source) → IsSame (record { kind = kind.Dir; source = s })
      → option_and_then (λ (es : Items Source). es n) (entries_with R (own_files full) s) ≡ Some j → IsSame j
  same_listed (Object id) n j i at =
      option_and_then_some (λ (es : Items Source). es n) (option_map objects_of (R.tree id)) j at (λ items had found.
      (let es = map_some objects_of (R.tree id) items (sym had) in
      let e = map_some (λ (e : TreeEntry). item_by e.mode e.id) (named (λ (e : TreeEntry). e.name) n es.0) j (sym (ap (λ (items : Items Source). items n) es.1.1 ∙ found)) in
      λ k is. absurd (objects_own e.0.mode e.0.id k (ap (λ (i : Item Source). i.source) e.1.1 ∙ is))))
  same_listed (Own q) n j i at =
      option_and_then_some (λ (es : Items Source). es n) (option_map items_of (entries_at full q)) j at (λ items had found.
      (let es = map_some items_of (entries_at full q) items (sym had) in
      let e = map_some item_of (named (λ (e : StoredEntry). e.name) n es.0) j (sym (ap (λ (items : Items Source). items n) es.1.1 ∙ found)) in
      let live = (i q refl).1 refl in
      subst IsSame e.1.1 (same_named q e.0 live.0 live.1 (record { entries = es.0; held = es.1.0; there = named_there n es.0 e.0 e.1.0 }))))
  same_listed Empty n j i at = absurd (none-some j at)

  same_entry : (t : Kind) (s : Source) (n : Name) (j : Item Source) → IsSame (record { kind = t; source = s })
      → entry_in (ground_with R (own_files full)) (record { kind = t; source = s }) n ≡ Some j → IsSame j
  same_entry kind.File s n j i at = absurd (none-some j at)
  same_entry kind.Exec s n j i at = absurd (none-some j at)
  same_entry kind.Link s n j i at = absurd (none-some j at)
  same_entry kind.Dir s n j i at = same_listed s n j i at

  -- along a path
  same_along : (p : Path) (i j : Item Source) → IsSame i → item_at (ground_with R (own_files full)) i p ≡ Some j → IsSame j
  same_along [] i j h at = subst IsSame (same_Some i j at) h
  same_along (n ∷ p) i j h at =
      option_and_then_some (λ (k : Item Source). item_at (ground_with R (own_files full)) k p) (entry_in (ground_with R (own_files full)) i n) j at (λ k there rest.
      same_along p k j (same_entry i.kind i.source n k h there) rest)

  shows_same : (i : Item Source) → IsSame i → shown (ground_with R (own_files F)) i ≡ shown (ground_with R (own_files full)) i
  shows_same i h =
      sees_its_own Source (ground_with R (own_files full)) (ground_with R (own_files F)) i
      (λ p j at. (let s = same_along p i j h at in same_source j.source (λ k is. (s k is).0)))

  -- ---- the entries of the table

  -- an entry that isn't loaded
  same_place : (z : Row) → Place x z → child_of z ≡ None → IsSame (item_away z)
  same_place z top none k is =
      let own = own_source z.number k z.origin is in
      let one : k ≡ 1 = sym own.1 ∙ b.fits.root in
      subst (IsSameAt z.kind) (sym one) (b.same_root none, λ dir. (here, λ w e place holds. absurd (root_loaded x w e place holds none)))
  same_place z (inside y d n w place holds found) none k is =
      let own = own_source z.number k z.origin is in
      let names : Names full y.number (full_entry (n, z)) = named_full full x next b.fits y d n z place holds found in
      let live : IsLive full y.number = place_counts full x next b.fits y d place holds in
      let away : IsAway x z.number = away_row full x next b.fits y d n z place holds found none in
      let its_own : own_if_loaded z.child z.origin ≡ origin.Own = as_is z none ∙ own.0 in
      subst (IsSameAt z.kind) own.1 (b.same y.number (full_entry (n, z)) live names its_own away, λ dir. (below y.number (full_entry (n, z)) live names (dir, its_own), away))

  pub shows_as_full : (z : Row) → Place x z → shown_in R F z ≡ shown (ground_with R (own_files full)) (full_item z)
  shows_as_full =
      shows_listed R F x b.fits.is_dir (ground_with R (own_files full)) (λ z. own_if_loaded z.child z.origin)
      (λ z place none.
      shows_away R F z none
      ∙ shows_same (item_away z) (same_place z place none)
      ∙ ap (λ o. shown (ground_with R (own_files full)) (record { kind = z.kind; source = source_of z.number o })) (sym (as_is z none)))
      (λ z d place holds. record {
        items = items_of (full_listing d);
        had = ap (λ o. entries_with R (own_files full) (source_of z.number o)) (own_loaded z d holds) ∙ ap (option_map items_of) (b.fits.held z d place holds);
        each = λ n. sym (items_listed (λ z. own_if_loaded z.child z.origin) n d.rows);
      })

pub shows_full : ShowsFull
shows_full R F x next k = shows_as_full R F k.full x next (backs_tied F k.full x next k.ties) x top
