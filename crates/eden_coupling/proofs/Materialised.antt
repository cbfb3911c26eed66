-- A chain of directories that is stored, from the lowest up: at each step the files are sound, and at the end the table is tied.
use Rattle.std.proofs.Common.{◌≡◌, ◌≢◌, ◌⊎◌, ℕ, true, false, if◌then◌else◌, List, [], ◌∷◌, ◌++◌, map, Some, refl, sym, ap, ◌∙◌, subst, inl, inr, arith}
use Rattle.std.specs.Option.{option_map, option_and_then}
use Rattle.std.proofs.lemmas.Bool.{false≢true}
use Rattle.eden_model.specs.declared.kind.Origin.{Origin}
use Rattle.eden_model.specs.declared.kind.Origin.TheVariants as origin
use Rattle.eden_model.specs.Trees.{Name, Path}
use Rattle.eden_overlay_format.specs.Directory.{AreStorable, is_own}
use Rattle.eden_overlay_format.specs.declared.stored_entry.StoredEntry.{StoredEntry}
use Rattle.eden_overlay.specs.Files.{Stored}
use Rattle.eden_overlay.specs.Held.{HoldsEntries, with_entries}
use Rattle.eden_overlay.specs.Soundness.{AreSound}
use Rattle.eden_overlay.proofs.CallerLemmas.{apart, entries_held, numbers_from_two}
use Rattle.eden_tree.specs.Directory.{Row, Directory, child_of, with_child}
use Rattle.eden_tree.specs.Rows.{find_row, change_row, set_row}
use Rattle.eden_tree.specs.Paths.{row_at, edit_row}
use Rattle.eden_tree.proofs.CallerLemmas.{child_of-with_child, change_rows-held, change_row-found, change_row-twice, reads_on, edits_on, edits_same, edits_twice, edits_alike, steps_down}
use Rattle.eden_coupling.specs.Listings.{stored_entry, full_entry, listing_of, Place, top}
use Rattle.eden_coupling.specs.Laws.{owned, with_owned}
use Rattle.eden_coupling.specs.Materialising.{marked_listing, Chain, lowest_own, lowest, both_own, above, OnTheWay, stored, further, IsChain, kept_mark, owned_along, ChainSound, ChainTied}
use Rattle.eden_coupling.specs.Ties.{IsStoredAs, Ties}
use Rattle.eden_coupling.proofs.Chain.{place_at, at_changed, stored_new, children_tied, strays_tied, root_tied}
use Rattle.eden_coupling.proofs.Chains.{chain_last, chain_marked, chain_rest, marked_is}
use Rattle.eden_coupling.proofs.Edits.{find_set, map_set}
use Rattle.eden_coupling.proofs.Places.{rising_of, named_full}
use Rattle.eden_coupling.proofs.Sound.{ties_sound}

-- ---- what a chain leaves of an entry

pub own_is : (o : Origin) → is_own o ≡ true → o ≡ origin.Own
own_is (origin.Object i) h = absurd (false≢true h)
own_is origin.Own h = refl
own_is origin.Empty h = absurd (false≢true h)

pub not_own : (o : Origin) → is_own o ≡ false → o ≢ origin.Own
not_own o h is = false≢true (sym h ∙ ap is_own is)

number_along : (p : Path) (x : Row) → (owned_along p x).number ≡ x.number
number_along [] x = refl
number_along (n ∷ p) x = refl

kind_along : (p : Path) (x : Row) → (owned_along p x).kind ≡ x.kind
kind_along [] x = refl
kind_along (n ∷ p) x = refl

origin_along : (p : Path) (x : Row) → (owned_along p x).origin ≡ x.origin
origin_along [] x = refl
origin_along (n ∷ p) x = refl

-- what is its own already
owned_same : (x : Row) → x.origin ≡ origin.Own → owned x ≡ x
owned_same x own = ap (λ o. record x { origin = o }) (sym own)

-- one step of it
pub along_found : (n : Name) (p : Path) (x : Row) (d : Directory) (z : Row) → child_of x ≡ Some d → find_row n d.rows ≡ Some z
    → owned_along (n ∷ p) x ≡ with_child (Some (record d { rows = set_row n (owned (owned_along p z)) d.rows; unsaved = kept_mark (find_row n d.rows) d.unsaved })) x
along_found n p x d z h there =
    ap (λ o. with_child (option_map (λ (a : Directory). record a { rows = change_row n (λ w. owned (owned_along p w)) a.rows; unsaved = kept_mark (find_row n a.rows) a.unsaved }) o) x) h
    ∙ ap (λ l. with_child (Some (record d { rows = l; unsaved = kept_mark (find_row n d.rows) d.unsaved })) x) (change_row-found n (λ w. owned (owned_along p w)) z d.rows there)

not_marked : (F full : Stored) (root : Row) (next : ℕ) → Ties F full root next → (x : Row) (d : Directory) → Place root x → child_of x ≡ Some d → x.origin ≢ origin.Own → d.unsaved ≡ false
not_marked F full root next t x d place h other = elim d.unsaved as (λ b. d.unsaved ≡ b → b ≡ false) [
  | true ↦ λ is. absurd (other (t.marked x d place h is))
  | false ↦ λ is. refl
] refl

module _ (F full : Stored) (root : Row) (next : ℕ) (t : Ties F full root next) where
  -- the table once the chain from the entry x at u along p was stored, and all of it but x marked
  record IsUp (u p : Path) (x : Row) (G : Stored) : Type 0 where
    directory : Directory
    holds : child_of (owned_along p x) ≡ Some directory
    filed : IsStoredAs G x.number directory
    ties : Ties G full (edit_row u (owned_along p) root) next

  -- a chain goes on below a directory
  at_below : (u : Path) (x : Row) (d : Directory) (n : Name) (z : Row) → row_at u root ≡ Some x → child_of x ≡ Some d → find_row n d.rows ≡ Some z → row_at (u ++ n ∷ []) root ≡ Some z
  at_below u x d n z at h there = reads_on u (n ∷ []) root ∙ ap (option_and_then (row_at (n ∷ []))) at ∙ steps_down n [] x z d h there

  -- and what is below isn't the root
  not_root : (u : Path) (x : Row) (d : Directory) (n : Name) (z : Row) → row_at u root ≡ Some x → child_of x ≡ Some d → find_row n d.rows ≡ Some z → z.number ≢ 1
  not_root u x d n z at h there is =
      let least = numbers_from_two full x.number (full_entry (n, z)) (named_full full root next t.fits x d n z (place_at u root x at) h there) in
      absurd (omega (arith, least, is))

  -- one directory x above one that is done
  module _ (u : Path) (x : Row) (d : Directory) (n : Name) (z : Row) (p : Path) (G : Stored) (at : row_at u root ≡ Some x) (h : child_of x ≡ Some d) (there : find_row n d.rows ≡ Some z)
      (up : IsUp (u ++ n ∷ []) p z G) where
    abbrev below : Row
    below = owned_along p z

    abbrev directory_then : Directory
    directory_then = record d { rows = set_row n below d.rows }

    abbrev entry_then : Row
    entry_then = with_child (Some directory_then) x

    abbrev table_then : Row
    table_then = edit_row (u ++ n ∷ []) (owned_along p) root

    abbrev directory_new : Directory
    directory_new = with_owned directory_then n below

    table_is : table_then ≡ edit_row u (edit_row (n ∷ []) (owned_along p)) root
    table_is = edits_on u (n ∷ []) (owned_along p) root

    entry_is : edit_row (n ∷ []) (owned_along p) x ≡ entry_then
    entry_is = change_rows-held (change_row n (edit_row [] (owned_along p))) x d h
        ∙ ap (λ l. with_child (Some (record d { rows = l })) x) (change_row-found n (edit_row [] (owned_along p)) z d.rows there)

    at_then : row_at u table_then ≡ Some entry_then
    at_then = ap (row_at u) table_is ∙ at_changed u (edit_row (n ∷ []) (owned_along p)) root x at ∙ ap Some entry_is

    there_then : find_row n directory_then.rows ≡ Some below
    there_then = find_set n z below d.rows there

    twice : set_row n (owned below) (set_row n below d.rows) ≡ set_row n (owned below) d.rows
    twice = change_row-twice n (λ _. owned below) (λ _. below) d.rows

    -- the table with the entry its own is that of the longer chain, where the mark is gone
    new_is : kept_mark (Some z) d.unsaved ≡ false → edit_row u (with_child (Some directory_new)) table_then ≡ edit_row u (owned_along (n ∷ p)) root
    new_is gone =
        ap (edit_row u (with_child (Some directory_new))) table_is
        ∙ edits_twice u (with_child (Some directory_new)) (edit_row (n ∷ []) (owned_along p)) root
        ∙ edits_alike u (λ y. with_child (Some directory_new) (edit_row (n ∷ []) (owned_along p) y)) (owned_along (n ∷ p)) root x at
        (ap (with_child (Some directory_new)) entry_is
        ∙ ap (λ l. with_child (Some (record d { rows = l; unsaved = false })) x) twice
        ∙ ap (λ b. with_child (Some (record d { rows = set_row n (owned below) d.rows; unsaved = b })) x) (sym (ap (λ o. kept_mark o d.unsaved) there ∙ gone))
        ∙ sym (along_found n p x d z h there))

    -- and where both were their own, that of the shorter one
    same_is : x.origin ≡ origin.Own → z.origin ≡ origin.Own → table_then ≡ edit_row u (owned_along (n ∷ p)) root
    same_is own own_z =
        table_is
        ∙ edits_alike u (edit_row (n ∷ []) (owned_along p)) (owned_along (n ∷ p)) root x at
        (entry_is
        ∙ ap (λ v. with_child (Some (record d { rows = set_row n v d.rows })) x) (sym (owned_same below (origin_along p z ∙ own_z)))
        ∙ ap (λ b. with_child (Some (record d { rows = set_row n (owned below) d.rows; unsaved = b })) x)
        (sym (ap (λ o. kept_mark o d.unsaved) there ∙ ap (λ o. kept_mark (Some (record z { origin = o })) d.unsaved) own_z))
        ∙ sym (along_found n p x d z h there))

    place : Place root x
    place = place_at u root x at

    listing_is : marked_listing d n ≡ listing_of directory_new
    listing_is =
        marked_is d n z (rising_of full root next t.fits x d place h) there
        ∙ sym (map_set stored_entry n (owned z) (owned below) (set_row n (owned z) d.rows) (find_set n z (owned z) d.rows there)
        (ap (λ k. record { name = n; kind = k; origin = origin.Own; number = below.number }) (kind_along p z) ∙ ap (λ k. record { name = n; kind = z.kind; origin = origin.Own; number = k })
        (number_along p z)))
        ∙ ap (map stored_entry) (change_row-twice n (λ _. owned below) (λ _. owned z) d.rows ∙ sym twice)

    filed_then : IsStoredAs G below.number up.directory
    filed_then = subst (λ k. IsStoredAs G k up.directory) (sym (number_along p z)) up.filed

    saved : x.origin ≢ origin.Own → d.unsaved ≡ false
    saved other = not_marked F full root next t x d place h other

    gone_mark : (is_own x.origin ≡ false) ⊎ (is_own z.origin ≡ false) → kept_mark (Some z) d.unsaved ≡ false
    gone_mark (inr other) = ap (λ b. if b then d.unsaved else false) other
    gone_mark (inl other) =
        ap (kept_mark (Some z)) (saved (not_own x.origin other)) ∙ elim (is_own z.origin) as (λ b. (if b then false else false) ≡ false) [ true ↦ refl | false ↦ refl ]

    -- the directory that x then has
    abbrev last : Directory
    last = record d { rows = set_row n (owned below) d.rows; unsaved = kept_mark (find_row n d.rows) d.unsaved }

    last_held : child_of (owned_along (n ∷ p) x) ≡ Some last
    last_held = ap child_of (along_found n p x d z h there) ∙ child_of-with_child (Some last) x

    last_listing : listing_of directory_new ≡ listing_of last
    last_listing = ap (map stored_entry) twice

    -- stored, where it isn't the root, or is its own
    module _ (are : AreStorable (marked_listing d n)) where
      held_new : HoldsEntries (with_entries G x.number (marked_listing d n)) x.number (listing_of directory_new)
      held_new = subst (HoldsEntries (with_entries G x.number (marked_listing d n)) x.number) listing_is (entries_held G x.number (marked_listing d n) are)

      step_ties : (x.origin ≢ origin.Own → x.number ≢ 1) → kept_mark (Some z) d.unsaved ≡ false
          → Ties (with_entries G x.number (marked_listing d n)) full (edit_row u (owned_along (n ∷ p)) root) next
      step_ties inner gone =
          subst (λ (v : Row). Ties (with_entries G x.number (marked_listing d n)) full v next) (new_is gone)
          (children_tied G full table_then next up.ties (with_entries G x.number (marked_listing d n)) u entry_then directory_then n below up.directory
          at_then (child_of-with_child (Some directory_then) x) there_then up.holds filed_then
          (λ k ne. apart G x.number (marked_listing d n) are k (λ is. ne (sym is))) (λ own. held_new) (λ other one. absurd (inner other one)))

  -- ---- up the chain, below the root

  up_chain : (p u : Path) (x : Row) (G : Stored) → row_at u root ≡ Some x → x.number ≢ 1 → IsChain x p → Chain F x p G → IsUp u p x G
  up_chain [] u x G at ne c (lowest_own v own) = record {
    directory = c.0;
    holds = c.1.0;
    filed = t.stored x c.0 (place_at u root x at) c.1.0 (own_is x.origin own);
    ties = subst (λ (r : Row). Ties F full r next) (sym (edits_same u (owned_along []) root x at refl)) t;
  }
  up_chain [] u x G at ne c (lowest v d h other) =
      let are = chain_last x d h c in
      record {
        directory = d;
        holds = h;
        filed = stored_new (with_entries F x.number (listing_of d)) x.number d (entries_held F x.number (listing_of d) are);
        ties = subst (λ (r : Row). Ties (with_entries F x.number (listing_of d)) full r next) (sym (edits_same u (owned_along []) root x at refl))
            (strays_tied F full root next t x d (listing_of d) (place_at u root x at) h (not_own x.origin other) ne are);
      }
  up_chain (n ∷ p) u x G at ne c (both_own v d m z q H h there k own own_z) =
      let up = up_chain p (u ++ n ∷ []) z G (at_below u x d n z at h there) (not_root u x d n z at h there) (chain_rest x d n z p h there c) k in
      let ties : Ties G full (edit_row u (owned_along (n ∷ p)) root) next =
      subst (λ (r : Row). Ties G full r next) (same_is u x d n z p G at h there up (own_is x.origin own) (own_is z.origin own_z)) up.ties in
      record {
        directory = last u x d n z p G at h there up;
        holds = last_held u x d n z p G at h there up;
        filed = ties.stored (owned_along (n ∷ p) x) (last u x d n z p G at h there up)
            (place_at u (edit_row u (owned_along (n ∷ p)) root) (owned_along (n ∷ p) x) (at_changed u (owned_along (n ∷ p)) root x at))
            (last_held u x d n z p G at h there up) (own_is x.origin own);
        ties = ties;
      }
  up_chain (n ∷ p) u x G at ne c (above v d m z q H h there k other) =
      let up = up_chain p (u ++ n ∷ []) z H (at_below u x d n z at h there) (not_root u x d n z at h there) (chain_rest x d n z p h there c) k in
      let are = chain_marked x d n p h c in
      let new : Stored = with_entries H x.number (marked_listing d n) in
      record {
        directory = last u x d n z p H at h there up;
        holds = last_held u x d n z p H at h there up;
        filed = stored_new new x.number (last u x d n z p H at h there up)
            (subst (HoldsEntries new x.number) (last_listing u x d n z p H at h there up) (held_new u x d n z p H at h there up are));
        ties = step_ties u x d n z p H at h there up are (λ off. ne) (gone_mark u x d n z p H at h there up other);
      }

  way_sound : (p u : Path) (x : Row) (G : Stored) → row_at u root ≡ Some x → x.number ≢ 1 → IsChain x p → OnTheWay F x p G → AreSound G
  way_sound p u x G at ne c (stored v q H k) = ties_sound G full (edit_row u (owned_along p) root) next (up_chain p u x G at ne c k).ties
  way_sound (n ∷ p) u x G at ne c (further v d m z q H h there w) =
      way_sound p (u ++ n ∷ []) z G (at_below u x d n z at h there) (not_root u x d n z at h there) (chain_rest x d n z p h there c) w

  -- ---- at the root

  root_chain : (p : Path) (G : Stored) → IsChain root p → Chain F root p G → Ties G full (owned (owned_along p root)) next
  root_chain [] G c (lowest_own v own) = subst (λ (r : Row). Ties F full r next) (sym (owned_same root (own_is root.origin own))) t
  root_chain [] G c (lowest v d h other) =
      let off = not_own root.origin other in
      subst (λ k. Ties (with_entries F k (listing_of d)) full (owned root) next) (sym t.fits.root)
      (root_tied F full root next t d h off (not_marked F full root next t root d top h off) (chain_last root d h c))
  root_chain (n ∷ p) G c (both_own v d m z q H h there k own own_z) =
      let up = up_chain p (n ∷ []) z G (at_below [] root d n z refl h there) (not_root [] root d n z refl h there) (chain_rest root d n z p h there c) k in
      subst (λ (r : Row). Ties G full r next)
      (same_is [] root d n z p G refl h there up (own_is root.origin own) (own_is z.origin own_z) ∙ sym (owned_same (owned_along (n ∷ p) root) (own_is root.origin own))) up.ties
  root_chain (n ∷ p) G c (above v d m z q H h there k other) =
      let up = up_chain p (n ∷ []) z H (at_below [] root d n z refl h there) (not_root [] root d n z refl h there) (chain_rest root d n z p h there c) k in
      let are = chain_marked root d n p h c in
      let gone = gone_mark [] root d n z p H refl h there up other in
      elim (is_own root.origin) as (λ b. is_own root.origin ≡ b → Ties (with_entries H root.number (marked_listing d n)) full (owned (owned_along (n ∷ p) root)) next) [
        | true ↦ λ own. subst (λ (r : Row). Ties (with_entries H root.number (marked_listing d n)) full r next) (sym (owned_same (owned_along (n ∷ p) root) (own_is root.origin own)))
            (step_ties [] root d n z p H refl h there up are (λ off. absurd (off (own_is root.origin own))) gone)
        | false ↦ λ other_is. becomes_own n p d z H h there up are gone (not_own root.origin other_is)
      ] refl
    where
      -- the root's file is stored last, once the entry below it is its own
      becomes_own : (n : Name) (p : Path) (d : Directory) (z : Row) (H : Stored) (h : child_of root ≡ Some d) (there : find_row n d.rows ≡ Some z) (up : IsUp (n ∷ []) p z H)
          → AreStorable (marked_listing d n) → kept_mark (Some z) d.unsaved ≡ false → root.origin ≢ origin.Own
          → Ties (with_entries H root.number (marked_listing d n)) full (owned (owned_along (n ∷ p) root)) next
      becomes_own n p d z H h there up are gone off =
          let new = last [] root d n z p H refl h there up in
          let listing : marked_listing d n ≡ listing_of new = listing_is [] root d n z p H refl h there up ∙ last_listing [] root d n z p H refl h there up in
          let marked : Ties H full (owned_along (n ∷ p) root) next = subst (λ (r : Row). Ties H full r next) (new_is [] root d n z p H refl h there up gone)
          (children_tied H full (table_then [] root d n z p H refl h there up) next up.ties H [] (entry_then [] root d n z p H refl h there up) (directory_then [] root d n z p H refl h there up) n
          (below [] root d n z p H refl h there up) up.directory (at_then [] root d n z p H refl h there up) (child_of-with_child (Some (directory_then [] root d n z p H refl h there up)) root)
          (there_then [] root d n z p H refl h there up) up.holds (filed_then [] root d n z p H refl h there up)
          (λ k ne. refl) (λ own. absurd (off own)) (λ other one. up.ties.rootless off)) in
          let made = root_tied H full (owned_along (n ∷ p) root) next marked new (last_held [] root d n z p H refl h there up) off (ap (λ o. kept_mark o d.unsaved) there ∙ gone)
          (subst AreStorable listing are) in
          subst (λ k. Ties (with_entries H k (marked_listing d n)) full (owned (owned_along (n ∷ p) root)) next) (sym t.fits.root)
          (subst (λ (l : List StoredEntry). Ties (with_entries H 1 l) full (owned (owned_along (n ∷ p) root)) next) (sym listing) made)

pub chain_tied : ChainTied
chain_tied F full x next t p G c k = root_chain F full x next t p G c k

pub chain_sound : ChainSound
chain_sound F full x next t p G c (stored v q H k) = ties_sound G full (owned (owned_along p x)) next (chain_tied F full x next t p G c k)
chain_sound F full x next t (n ∷ p) G c (further v d m z q H h there w) =
    way_sound F full x next t p (n ∷ []) z G (at_below F full x next t [] x d n z refl h there) (not_root F full x next t [] x d n z refl h there) (chain_rest x d n z p h there c) w
