-- What is loaded once a chain of directories is its own, and which files that takes.
use Rattle.std.proofs.Common.{◌≡◌, ◌<◌, ◌^◌, ◌⊎◌, Bool, suc, true, false, if◌then◌else◌, List, [], ◌∷◌, length, map, Some, None, refl, sym, ap, ◌∙◌, subst, inl, inr}
use Rattle.std.specs.List.{AllByRecursion}
use Rattle.std.specs.List.Sorted.{IsStrictlySortedBy}
use Rattle.std.specs.Option.{option_and_then}
use Rattle.std.specs.Str.{bytes_eq}
use Rattle.std.proofs.lemmas.Option.{same_Some}
use Rattle.eden_model.specs.declared.kind.Kind.{Kind}
use Rattle.eden_model.specs.declared.kind.Origin.{Origin}
use Rattle.eden_model.specs.declared.kind.Origin.TheVariants as origin
use Rattle.eden_model.specs.Trees.{Name, Path}
use Rattle.eden_overlay_format.specs.Directory.{AreStorable, IsStorable, HasOrigin, is_own}
use Rattle.eden_overlay_format.specs.declared.stored_entry.StoredEntry.{StoredEntry}
use Rattle.eden_overlay.specs.Files.{Stored}
use Rattle.eden_overlay.specs.Held.{with_entries}
use Rattle.eden_tree.specs.Directory.{Row, Directory, child_of, with_child}
use Rattle.eden_tree.specs.Rows.{find_row, set_row}
use Rattle.eden_tree.specs.Paths.{row_at}
use Rattle.eden_tree.proofs.CallerLemmas.{order, child_of-with_child, change_row-twice, steps_down, steps_back, with_child-same, edits_same, edits_twice}
use Rattle.eden_coupling.specs.Chains.{chained, Above, at_end, as_is, again, Unfinished, here, below}
use Rattle.eden_coupling.specs.Changing.{with_listing}
use Rattle.eden_coupling.specs.Laws.{owned}
use Rattle.eden_coupling.specs.Listings.{stored_entry, listing_of, Place, top}
use Rattle.eden_coupling.specs.Materialising.{marked_entry, marked_listing, Chain, both_own, above, IsChain, kept_mark, owned_along}
use Rattle.eden_coupling.proofs.Chain.{at_changed, root_loaded}
use Rattle.eden_coupling.proofs.Chains.{marked_is}
use Rattle.eden_coupling.proofs.Edits.{find_set, find_other, map_set}
use Rattle.eden_coupling.proofs.Follows.{below_top, place_cases}
use Rattle.eden_coupling.proofs.Materialised.{along_found}
use Rattle.eden_coupling.proofs.Rows.{and_then_some, names_mapped, names_stored, stored_rising}
use Rattle.eden_coupling.proofs.Steps.{Was, was_itself, level_cases, beside_place, edited_number, edited_kind, edited_origin}

-- ---- a directory with an entry marked can be stored

length_marked : (n : Name) (es : List (Name × Row)) → length (map (marked_entry n) es) ≡ length (map stored_entry es)
length_marked n [] = refl
length_marked n (e ∷ es) = ap suc (length_marked n es)

each_marked : (n : Name) (es : List (Name × Row)) → AllByRecursion IsStorable (map stored_entry es) → AllByRecursion IsStorable (map (marked_entry n) es)
each_marked n [] all = tt
each_marked n (e ∷ es) all = (record { name = all.0.name; origin = marked_origin (bytes_eq n e.0) e.1.kind e.1.origin all.0.origin; least = all.0.least; most = all.0.most }, each_marked n es all.1)
  where
    marked_origin : (b : Bool) (k : Kind) (o : Origin) → HasOrigin k o → HasOrigin k (if b then origin.Own else o)
    marked_origin true k o h = tt
    marked_origin false k o h = h

pub marked_are : (d : Directory) (n : Name) → AreStorable (listing_of d) → AreStorable (marked_listing d n)
marked_are d n are = record {
  count = subst (λ k. k < 2 ^ 32) (sym (length_marked n d.rows)) are.count;
  rising = subst (IsStrictlySortedBy order) (names_stored d.rows ∙ sym (names_mapped (marked_entry n) (λ e. refl) d.rows)) are.rising;
  each = each_marked n d.rows are.each;
}

-- ---- one step of a path

-- the entry below a directory on the path
pub record Step (n : Name) (p : Path) (x y : Row) : Type 0 where
  pub directory : Directory
  pub row : Row
  pub holds : child_of x ≡ Some directory
  pub there : find_row n directory.rows ≡ Some row
  pub at : row_at p row ≡ Some y

pub step : (n : Name) (p : Path) (x y : Row) → row_at (n ∷ p) x ≡ Some y → Step n p x y
step n p x y at =
    let one = and_then_some (λ (a : Directory). option_and_then (row_at p) (find_row n a.rows)) (child_of x) y at in
    let two = and_then_some (row_at p) (find_row n one.0.rows) y one.1.1 in
    record { directory = one.0; row = two.0; holds = one.1.0; there = two.1.0; at = two.1.1 }

pub at_step : (n : Name) (p : Path) (x y : Row) (d : Directory) (z : Row) → child_of x ≡ Some d → find_row n d.rows ≡ Some z → row_at (n ∷ p) x ≡ Some y → row_at p z ≡ Some y
at_step n p x y d z h there at = sym (steps_down n p x z d h there) ∙ at

module _ (e : Directory) where
  -- the directory of x with its entry z on the path changed below
  abbrev pub changed_below : Path → Name → Row → Directory → Directory
  changed_below p n z d = record d { rows = set_row n (with_listing p e z) d.rows }

  listing_found : (n : Name) (p : Path) (x : Row) (d : Directory) (z : Row) → child_of x ≡ Some d → find_row n d.rows ≡ Some z
      → with_listing (n ∷ p) e x ≡ with_child (Some (changed_below p n z d)) x
  listing_found n p x d z h there = sym (steps_back n p (with_child (Some e)) x z d h there)

  -- what is stored of it, that entry its own
  marked_alike : (n : Name) (p : Path) (d : Directory) (z : Row) → find_row n d.rows ≡ Some z → marked_listing (changed_below p n z d) n ≡ marked_listing d n
  marked_alike n p d z there =
      map_set (marked_entry n) n z (with_listing p e z) d.rows there
      (ap (λ k. record { name = n; kind = k; origin = (if bytes_eq n n then origin.Own else (with_listing p e z).origin); number = (with_listing p e z).number }) (edited_kind p (Some e) z)
      ∙ ap (λ o. record { name = n; kind = z.kind; origin = (if bytes_eq n n then origin.Own else o); number = (with_listing p e z).number }) (edited_origin p (Some e) z)
      ∙ ap (λ k. record { name = n; kind = z.kind; origin = (if bytes_eq n n then origin.Own else z.origin); number = k }) (edited_number p (Some e) z))

  -- ---- the files

  own_still : (b : Bool) (p : Path) (z : Row) → is_own z.origin ≡ b → is_own (with_listing p e z).origin ≡ b
  own_still b p z h = ap is_own (edited_origin p (Some e) z) ∙ h

  other_still : (n : Name) (p : Path) (x z : Row) (a : Row) → a.origin ≡ x.origin → (is_own x.origin ≡ false) ⊎ (is_own z.origin ≡ false) → (is_own a.origin ≡ false)
      ⊎ (is_own (with_listing p e z).origin ≡ false)
  other_still n p x z a same (inl h) = inl (ap is_own same ∙ h)
  other_still n p x z a same (inr h) = inr (own_still false p z h)

  -- what is stored above a directory, whatever that holds
  pub chain_from : (E F : Stored) (p : Path) (x y : Row) (G : Stored) → row_at p x ≡ Some y → Chain E (with_child (Some e) y) [] F → Above F x p G → Chain E (with_listing p e x) p G
  chain_from E F [] x y G at last (at_end v) = subst (λ (a : Row). Chain E (with_child (Some e) a) [] F) (sym (same_Some x y at)) last
  chain_from E F (n ∷ p) x y G at last (as_is v d m z q H h there k own own_z) =
      subst (λ (a : Row). Chain E a (n ∷ p) G) (sym (listing_found n p x d z h there))
      (both_own (with_child (Some (changed_below p n z d)) x) (changed_below p n z d) n (with_listing p e z) p G (child_of-with_child (Some (changed_below p n z d)) x)
      (find_set n z (with_listing p e z) d.rows there) (chain_from E F p z y G (at_step n p x y d z h there at) last k) own (own_still true p z own_z))
  chain_from E F (n ∷ p) x y G at last (again v d m z q H h there k other) =
      subst (λ (a : Row). Chain E a (n ∷ p) (with_entries H x.number (marked_listing d n))) (sym (listing_found n p x d z h there))
      (subst (λ (l : List StoredEntry). Chain E (with_child (Some (changed_below p n z d)) x) (n ∷ p) (with_entries H x.number l)) (marked_alike n p d z there)
      (above (with_child (Some (changed_below p n z d)) x) (changed_below p n z d) n (with_listing p e z) p H (child_of-with_child (Some (changed_below p n z d)) x)
      (find_set n z (with_listing p e z) d.rows there)
      (chain_from E F p z y H (at_step n p x y d z h there at) last k)
      (other_still n p x z (with_child (Some (changed_below p n z d)) x) refl other)))

  -- the chain can be stored
  pub chain_can : (p : Path) (x y : Row) → row_at p x ≡ Some y → AreStorable (listing_of e) → ((a : Row) (d : Directory) → Place x a → child_of a ≡ Some d → AreStorable (listing_of d))
      → IsChain (with_listing p e x) p
  chain_can [] x y at are listed = (e, (child_of-with_child (Some e) x, are))
  chain_can (n ∷ p) x y at are listed =
      let s = step n p x y at in
      let d = s.directory in
      let z = s.row in
      let rest = chain_can p z y s.at are (λ a b q h. listed a b (below_top x z a d n s.holds s.there q) h) in
      let can = subst AreStorable (sym (marked_alike n p d z s.there)) (marked_are d n (listed x d top s.holds)) in
      subst (λ (a : Row). IsChain a (n ∷ p)) (sym (listing_found n p x d z s.holds s.there))
      (changed_below p n z d, (child_of-with_child (Some (changed_below p n z d)) x, (can, (with_listing p e z, (find_set n z (with_listing p e z) d.rows s.there, rest)))))

  -- ---- the table then

  -- a directory of the chain
  abbrev pub last_of : Path → Name → Row → Directory → Directory
  last_of p n z d = record d { rows = set_row n (chained p e z) d.rows; unsaved = kept_mark (Some z) d.unsaved }

  pub chained_found : (n : Name) (p : Path) (x : Row) (d : Directory) (z : Row) → child_of x ≡ Some d → find_row n d.rows ≡ Some z
      → chained (n ∷ p) e x ≡ owned (with_child (Some (last_of p n z d)) x)
  chained_found n p x d z h there =
      let below = changed_below p n z d in
      let v = with_listing p e z in
      ap (λ a. owned (owned_along (n ∷ p) a)) (listing_found n p x d z h there)
      ∙ ap owned (along_found n p (with_child (Some below) x) below v (child_of-with_child (Some below) x) (find_set n z v d.rows there))
      ∙ ap (λ l. owned (with_child (Some (record d { rows = l; unsaved = kept_mark (find_row n below.rows) d.unsaved })) x)) (change_row-twice n (λ _. chained p e z) (λ _. v) d.rows)
      ∙ ap (λ o. owned (with_child (Some (record d { rows = set_row n (chained p e z) d.rows; unsaved = kept_mark o d.unsaved })) x)) (find_set n z v d.rows there)
      ∙ ap (λ o. owned (with_child (Some (record d { rows = set_row n (chained p e z) d.rows; unsaved = kept_mark (Some (record v { origin = o })) d.unsaved })) x)) (edited_origin p (Some e) z)

  pub chained_kind : (p : Path) (x : Row) → (chained p e x).kind ≡ x.kind
  chained_kind [] x = refl
  chained_kind (n ∷ p) x = edited_kind (n ∷ p) (Some e) x

  pub chained_number : (p : Path) (x : Row) → (chained p e x).number ≡ x.number
  chained_number [] x = refl
  chained_number (n ∷ p) x = edited_number (n ∷ p) (Some e) x

-- ---- what is loaded then

module _ (y : Row) (d e : Directory) (holds : child_of y ≡ Some d) (are : AreStorable (listing_of e))
    (each : (m : Name) (v : Row) → find_row m e.rows ≡ Some v → (find_row m d.rows ≡ Some v) ⊎ (child_of v ≡ None)) where
  -- a directory of the chain, or one as it was
  pub data Then (x w : Row) (c : Directory) : Type 0 where
    on_chain : w.origin ≡ origin.Own → AreStorable (listing_of c) → Then x w c
    as_before : Was x w c → Then x w c

  then_up : (x z w : Row) (a c : Directory) (n : Name) → child_of x ≡ Some a → find_row n a.rows ≡ Some z → Then z w c → Then x w c
  then_up x z w a c n h there (on_chain own can) = on_chain own can
  then_up x z w a c n h there (as_before b) = as_before (record {
    row = b.row;
    directory = b.directory;
    place = below_top x z b.row a n h there b.place;
    holds = b.holds;
    number = b.number;
    kind = b.kind;
    origin = b.origin;
    mark = b.mark;
    listing = b.listing;
  })

  -- one directory of the chain, above another
  module _ (n : Name) (p : Path) (x : Row) (a : Directory) (z : Row) (h : child_of x ≡ Some a) (there : find_row n a.rows ≡ Some z) (can : AreStorable (listing_of a)) where
    abbrev last : Directory
    last = last_of e p n z a

    last_listing : marked_listing a n ≡ listing_of last
    last_listing =
        marked_is a n z (stored_rising a can) there
        ∙ sym (map_set stored_entry n (owned z) (chained p e z) (set_row n (owned z) a.rows) (find_set n z (owned z) a.rows there)
        (ap (λ k. record { name = n; kind = k; origin = origin.Own; number = (chained p e z).number }) (chained_kind e p z)
        ∙ ap (λ k. record { name = n; kind = z.kind; origin = origin.Own; number = k }) (chained_number e p z)))
        ∙ ap (map stored_entry) (change_row-twice n (λ _. chained p e z) (λ _. owned z) a.rows)

    last_can : AreStorable (listing_of last)
    last_can = subst AreStorable last_listing (marked_are a n can)

    last_there : find_row n last.rows ≡ Some (chained p e z)
    last_there = find_set n z (chained p e z) a.rows there

    last_holds : child_of (owned (with_child (Some last) x)) ≡ Some last
    last_holds = child_of-with_child (Some last) x

    step_then : (w : Row) (c : Directory) → Place (owned (with_child (Some last) x)) w → child_of w ≡ Some c → ((q : Place (chained p e z) w) → Then z w c) → Then x w c
    step_then w c q k deeper = elim (level_cases (owned (with_child (Some last) x)) last n (chained p e z) w c last_holds last_there q k) [
      | inl is ↦ on_chain (ap (λ (r : Row). r.origin) is.0) (let P : Directory → Type 0 = λ b. AreStorable (listing_of b) in subst P (sym is.1) last_can)
      | inr other ↦ elim other [
        | inl r ↦ then_up x z w a c n h there (deeper r)
        | inr b ↦ as_before (was_itself x w c
            (beside_place x a n w h (record { name = b.name; row = b.row; other = b.other; there = sym (find_other b.name n (chained p e z) a.rows b.other) ∙ b.there; place = b.place })) k)
      ]
    ]

  -- the lowest one
  lowest_then : (x w : Row) (c : Directory) → x ≡ y → Place (owned (with_child (Some e) x)) w → child_of w ≡ Some c → Then x w c
  lowest_then x w c is q k = elim (place_cases (owned (with_child (Some e) x)) w q) [
    | inl at_top ↦
        (let dir : c ≡ e = same_Some c e (sym k ∙ ap child_of at_top ∙ child_of-with_child (Some e) x) in
        let P : Directory → Type 0 = λ b. AreStorable (listing_of b) in
        on_chain (ap (λ (r : Row). r.origin) at_top) (subst P (sym dir) are))
    | inr b ↦
        (let dir : b.directory ≡ e = same_Some b.directory e (sym b.holds ∙ child_of-with_child (Some e) x) in
        elim (each b.name b.row (ap (λ (r : Directory). find_row b.name r.rows) (sym dir) ∙ b.there)) [
          | inl was ↦ as_before (was_itself x w c (below_top x b.row w d b.name (ap child_of is ∙ holds) was b.place) k)
          | inr none ↦ absurd (root_loaded b.row w c b.place k none)
        ])
  ]

  pub forth : (p : Path) (x : Row) → row_at p x ≡ Some y → ((v : Row) (b : Directory) → Place x v → child_of v ≡ Some b → AreStorable (listing_of b))
      → (w : Row) (c : Directory) → Place (chained p e x) w → child_of w ≡ Some c → Then x w c
  forth [] x at listed w c q k = lowest_then x w c (same_Some x y at) q k
  forth (n ∷ p) x at listed w c q k =
      let s = step n p x y at in
      let P : Row → Type 0 = λ r. Place r w in
      step_then n p x s.directory s.row s.holds s.there (listed x s.directory top s.holds) w c (subst P (chained_found e n p x s.directory s.row s.holds s.there) q) k
      (λ r. forth p s.row s.at (λ v b o j. listed v b (below_top x s.row v s.directory n s.holds s.there o) j) w c r k)

-- ---- stores that are made, and stores to come

-- with those below an entry made, all are, or some are to come
pub so_far : (M : Stored) (x : Row) (d : Directory) (n : Name) (z : Row) (p : Path) (G : Stored) → child_of x ≡ Some d → find_row n d.rows ≡ Some z → Above M z p G ⊎ Unfinished M z p G
    → Above M x (n ∷ p) G ⊎ Unfinished M x (n ∷ p) G
so_far M x d n z p G h there (inr u) = inr (below x d n z p G h there u)
so_far M x d n z p G h there (inl a) =
    elim (is_own x.origin) as (λ b. is_own x.origin ≡ b → Above M x (n ∷ p) G ⊎ Unfinished M x (n ∷ p) G) [
      | false ↦ λ other. inr (here x d n z p G h there a (inl other))
      | true ↦ λ own. elim (is_own z.origin) as (λ b. is_own z.origin ≡ b → Above M x (n ∷ p) G ⊎ Unfinished M x (n ∷ p) G) [
        | false ↦ λ other. inr (here x d n z p G h there a (inr other))
        | true ↦ λ own_z. inl (as_is x d n z p G h there a own own_z)
      ] refl
    ] refl

-- before the first of them
pub none_yet : (M : Stored) (p : Path) (x y : Row) → row_at p x ≡ Some y → Above M x p M ⊎ Unfinished M x p M
none_yet M [] x y at = inl (at_end x)
none_yet M (n ∷ p) x y at = let s = step n p x y at in so_far M x s.directory n s.row p M s.holds s.there (none_yet M p s.row y s.at)

-- ---- the stores above a directory are the same, whatever that holds

module _ (e : Directory) (M : Stored) where
  pub above_edited : (p : Path) (x y : Row) (G : Stored) → row_at p x ≡ Some y → Above M x p G → Above M (with_listing p e x) p G
  above_edited [] x y G at (at_end v) = at_end (with_listing [] e x)
  above_edited (n ∷ p) x y G at (as_is v d m z q H h there k own own_z) =
      subst (λ (a : Row). Above M a (n ∷ p) G) (sym (listing_found e n p x d z h there))
      (as_is (with_child (Some (changed_below e p n z d)) x) (changed_below e p n z d) n (with_listing p e z) p G (child_of-with_child (Some (changed_below e p n z d)) x)
      (find_set n z (with_listing p e z) d.rows there) (above_edited p z y G (at_step n p x y d z h there at) k) own (own_still e true p z own_z))
  above_edited (n ∷ p) x y G at (again v d m z q H h there k other) =
      subst (λ (a : Row). Above M a (n ∷ p) (with_entries H x.number (marked_listing d n))) (sym (listing_found e n p x d z h there))
      (subst (λ (l : List StoredEntry). Above M (with_child (Some (changed_below e p n z d)) x) (n ∷ p) (with_entries H x.number l)) (marked_alike e n p d z there)
      (again (with_child (Some (changed_below e p n z d)) x) (changed_below e p n z d) n (with_listing p e z) p H (child_of-with_child (Some (changed_below e p n z d)) x)
      (find_set n z (with_listing p e z) d.rows there) (above_edited p z y H (at_step n p x y d z h there at) k)
      (other_still e n p x z (with_child (Some (changed_below e p n z d)) x) refl other)))

  pub unfinished_edited : (p : Path) (x y : Row) (G : Stored) → row_at p x ≡ Some y → Unfinished M x p G → Unfinished M (with_listing p e x) p G
  unfinished_edited [] x y G at u = elim u [ ]
  unfinished_edited (n ∷ p) x y G at (here v d m z q H h there k other) =
      subst (λ (a : Row). Unfinished M a (n ∷ p) G) (sym (listing_found e n p x d z h there))
      (here (with_child (Some (changed_below e p n z d)) x) (changed_below e p n z d) n (with_listing p e z) p G (child_of-with_child (Some (changed_below e p n z d)) x)
      (find_set n z (with_listing p e z) d.rows there) (above_edited p z y G (at_step n p x y d z h there at) k)
      (other_still e n p x z (with_child (Some (changed_below e p n z d)) x) refl other))
  unfinished_edited (n ∷ p) x y G at (below v d m z q H h there u) =
      subst (λ (a : Row). Unfinished M a (n ∷ p) G) (sym (listing_found e n p x d z h there))
      (below (with_child (Some (changed_below e p n z d)) x) (changed_below e p n z d) n (with_listing p e z) p G (child_of-with_child (Some (changed_below e p n z d)) x)
      (find_set n z (with_listing p e z) d.rows there) (unfinished_edited p z y G (at_step n p x y d z h there at) u))

-- .. so it may be changed back
module _ (p : Path) (x y : Row) (d e : Directory) (at : row_at p x ≡ Some y) (holds : child_of y ≡ Some d) (M G : Stored) where
  back_is : with_listing p d (with_listing p e x) ≡ x
  back_is = edits_twice p (with_child (Some d)) (with_child (Some e)) x ∙ edits_same p (λ a. with_child (Some d) (with_child (Some e) a)) x y at (with_child-same y d holds)

  pub above_back : Above M (with_listing p e x) p G → Above M x p G
  above_back up = subst (λ (a : Row). Above M a p G) back_is (above_edited d M p (with_listing p e x) (with_child (Some e) y) G (at_changed p (with_child (Some e)) x y at) up)

  pub unfinished_back : Unfinished M (with_listing p e x) p G → Unfinished M x p G
  unfinished_back u = subst (λ (a : Row). Unfinished M a p G) back_is (unfinished_edited d M p (with_listing p e x) (with_child (Some e) y) G (at_changed p (with_child (Some e)) x y at) u)
