-- What a rescan finds and what it accuses, by the entries that files list at paths.
use Rattle.std.proofs.Common.{◌≡◌, ◌≤◌, ◌+◌, ◌++◌, ◌⊎◌, ℕ, Bool, true, false, cond, List, [], ◌∷◌, Contains, map, Option, Some, None, IsSome, sym, refl, ◌∙◌, ap, subst, inl, inr}
use Rattle.std.proofs.lemmas.Option.{same_Some, none-some}
use Rattle.std.proofs.lemmas.List.{append_cancel_right}
use Rattle.std.specs.Cmp.Lexicographic.{slice_cmp}
use Rattle.std.specs.List.Sorted.{IsStrictlySortedBy}
use Rattle.std.specs.Option.{option_map, option_and_then}
use Rattle.std.specs.Ordering.{nat_cmp}
use Rattle.std.specs.Str.{bytes_eq}
use Rattle.eden_model.specs.declared.id.Id.{Id}
use Rattle.eden_model.specs.declared.kind.Kind.TheVariants as kind
use Rattle.eden_model.specs.declared.kind.Origin.{Origin}
use Rattle.eden_model.specs.declared.kind.Origin.TheVariants as origin
use Rattle.eden_model.specs.Backing.{AreShown}
use Rattle.eden_model.specs.Keys.{same_id}
use Rattle.eden_model.specs.Limits.{number_least, number_end}
use Rattle.eden_model.specs.Named.{named}
use Rattle.eden_model.specs.Numbers.{Numbering}
use Rattle.eden_model.specs.Shown.{if_dir}
use Rattle.eden_model.specs.Trees.{Name, Path}
use Rattle.eden_model.proofs.CallerLemmas.{name-named}
use Rattle.eden_overlay_format.specs.declared.header.Identifier.TheVariants as identifier
use Rattle.eden_overlay_format.specs.declared.refusal.Refusal.{Refusal}
use Rattle.eden_overlay_format.specs.declared.stored_entry.StoredEntry.{StoredEntry}
use Rattle.eden_overlay_format.specs.Directory.{AreStorable}
use Rattle.eden_overlay_format.specs.Numbers.{has_numbers}
use Rattle.eden_overlay_format.specs.Values.{entries_in, numbers_in}
use Rattle.eden_overlay_format.proofs.CallerLemmas.{numbers_good}
use Rattle.eden_overlay.specs.declared.fault.GetFault.TheVariants as get
use Rattle.eden_overlay.specs.declared.rescan.RescanFault.{RescanFault}
use Rattle.eden_overlay.specs.declared.rescan.RescanFault.TheVariants as rescan
use Rattle.eden_overlay.specs.Counting.{root_from, listing_at, ListsEntry, Counts, top, inside, Counted, HasGoodNumbers, NumbersAreSound}
use Rattle.eden_overlay.specs.Files.{Stored}
use Rattle.eden_overlay.specs.Getting.{Explains}
use Rattle.eden_overlay.specs.Held.{root_file, of_tree, numbers_of, unless_numbers}
use Rattle.eden_overlay.specs.Rescanning.{IsNextOf, IsOwned, IsDangling, ExplainsKind, IsRescanFault}
use Rattle.eden_overlay.specs.Rescanning.{IsTwice as IsTwiceThere, IsDamaged as IsDamagedThere}
use Rattle.eden_overlay.specs.Soundness.{AreSound}
use Rattle.eden_overlay.proofs.CallerLemmas.{held_storable}
use Rattle.eden_tree.specs.Directory.{Row}
use Rattle.eden_tree.specs.Rows.{find_row}
use Rattle.eden_tree.proofs.CallerLemmas.{find_row-Contains}
use Rattle.eden_coupling.specs.Numberings.{row_of, row_named}
use Rattle.eden_coupling.proofs.CallerLemmas.{and_then_some, map_some, contains_mapped, found_shown}
use Rattle.eden_checkout.specs.declared.opening.Opening.TheVariants as opening
use Rattle.eden_checkout.specs.Laws.{FindsAsOverlay, AccusesAsOverlay}
use Rattle.eden_checkout.specs.Opening.{root_entry, listed_at, files_number, IsListed, IsListedIn, IsRescanned, IsTwice, IsDamaged, IsRefusal, of_rescan}
use Rattle.eden_checkout.proofs.Listed.{root_row, numbers_are, found_there, only_directory}

-- ---- an entry of a listing is the one of its name

by_rows : (n : Name) (es : List StoredEntry) → row_named n es ≡ find_row n (map (λ (e : StoredEntry). (e.name, row_of e)) es)
by_rows n [] = refl
by_rows n (e ∷ es) =
    elim (bytes_eq n e.name) as (λ b. option_map row_of (cond b (Some e) (named (λ (s : StoredEntry). s.name) n es))
    ≡ cond b (Some (row_of e)) (find_row n (map (λ (s : StoredEntry). (s.name, row_of s)) es))) [
      | true ↦ refl
      | false ↦ by_rows n es
    ]

row_names : (es : List StoredEntry) → map (λ (r : Name × Row). r.0) (map (λ (e : StoredEntry). (e.name, row_of e)) es) ≡ map (λ (e : StoredEntry). e.name) es
row_names [] = refl
row_names (e ∷ es) = ap (λ (ns : List Name). e.name ∷ ns) (row_names es)

by_parts : (f e : StoredEntry) → f.name ≡ e.name → row_of f ≡ row_of e → f ≡ e
by_parts f e name row =
    ap (λ n. record { name = n; kind = f.kind; origin = f.origin; number = f.number }) name
    ∙ ap (λ (r : Row). record { name = e.name; kind = r.kind; origin = r.origin; number = r.number }) row

named_there : (es : List StoredEntry) (e : StoredEntry) → AreStorable es → Contains es e → named (λ (s : StoredEntry). s.name) e.name es ≡ Some e
named_there es e are there =
    let rows = map (λ (s : StoredEntry). (s.name, row_of s)) es in
    let found : find_row e.name rows ≡ Some (row_of e) =
    find_row-Contains e.name rows (row_of e) (subst (IsStrictlySortedBy (slice_cmp nat_cmp)) (sym (row_names es)) are.rising)
    (contains_mapped (λ (s : StoredEntry). (s.name, row_of s)) es e there) in
    let f = map_some row_of (named (λ (s : StoredEntry). s.name) e.name es) (row_of e) (sym (by_rows e.name es ∙ found)) in
    f.1.0 ∙ ap Some (by_parts f.0 e (name-named (λ (s : StoredEntry). s.name) e.name es f.0 f.1.0) f.1.1)

its_own : (tree : Id) (found : Id × List StoredEntry) (es : List StoredEntry) → of_tree tree found ≡ Some es → found.1 ≡ es
its_own tree found es h = by_id (same_id found.0 tree) h where
  by_id : (b : Bool) → cond b (Some found.1) None ≡ Some es → found.1 ≡ es
  by_id true is = same_Some found.1 es is
  by_id false is = absurd (none-some es is)

listing_storable : (F : Stored) (d : ℕ) (o : Origin) (es : List StoredEntry) → listing_at F d o ≡ Some es → AreStorable es
listing_storable F d (origin.Object tree) es h =
    let bytes = and_then_some (numbers_of tree) (F d) es h in
    let found = and_then_some (of_tree tree) (numbers_in bytes.0) es bytes.1.1 in
    subst AreStorable (its_own tree found.0 es found.1.1) (numbers_good bytes.0 found.0.0 found.0.1 found.1.0).entries
listing_storable F d origin.Own es h = held_storable F d es h
listing_storable F d origin.Empty es h = absurd (none-some es h)

module _ (root : Id) (F : Stored) where
  -- ---- one step down

  abbrev below : StoredEntry → Option (List StoredEntry)
  below z = if_dir z.kind (listing_at F z.number z.origin)

  abbrev named_in : Name → List StoredEntry → Option StoredEntry
  named_in n es = named (λ (c : StoredEntry). c.name) n es

  record Step (z : StoredEntry) (n : Name) (p : Path) (e : StoredEntry) : Type 0 where
    entries : List StoredEntry
    held : below z ≡ Some entries
    next : StoredEntry
    found : named_in n entries ≡ Some next
    rest : listed_at F next p ≡ Some e

  step : (z : StoredEntry) (n : Name) (p : Path) (e : StoredEntry) → listed_at F z (n ∷ p) ≡ Some e → Step z n p e
  step z n p e h =
      let es = and_then_some (λ (es : List StoredEntry). option_and_then (λ c. listed_at F c p) (named_in n es)) (below z) e h in
      let c = and_then_some (λ (c : StoredEntry). listed_at F c p) (named_in n es.0) e es.1.1 in
      record { entries = es.0; held = es.1.0; next = c.0; found = c.1.0; rest = c.1.1 }

  stepped : (z : StoredEntry) (n : Name) (p : Path) (e : StoredEntry) → Step z n p e → listed_at F z (n ∷ p) ≡ Some e
  stepped z n p e s =
      ap (option_and_then (λ (es : List StoredEntry). option_and_then (λ c. listed_at F c p) (named_in n es))) s.held
      ∙ ap (option_and_then (λ c. listed_at F c p)) s.found
      ∙ s.rest

  listed_on : (p : Path) (x z e : StoredEntry) (n : Name) → listed_at F x p ≡ Some z → listed_at F z (n ∷ []) ≡ Some e → listed_at F x (p ++ n ∷ []) ≡ Some e
  listed_on [] x z e n at h = ap (λ (y : StoredEntry). listed_at F y (n ∷ [])) (same_Some x z at) ∙ h
  listed_on (m ∷ p) x z e n at h =
      let s = step x m p z at in
      stepped x m (p ++ n ∷ []) e (record { entries = s.entries; held = s.held; next = s.next; found = s.found; rest = listed_on p s.next z e n s.rest h })

  -- ---- what counts stands at a path

  record StandsAt (d : ℕ) (o : Origin) : Type 0 where
    path : Path
    entry : StoredEntry
    there : listed_at F (root_entry root F) path ≡ Some entry
    is_dir : entry.kind ≡ kind.Dir
    number : entry.number ≡ d
    from : entry.origin ≡ o

  entry_there : (d : ℕ) (o : Origin) (e : StoredEntry) (z : StandsAt d o) → ListsEntry F d o e → listed_at F (root_entry root F) (z.path ++ e.name ∷ []) ≡ Some e
  entry_there d o e z l =
      listed_on z.path (root_entry root F) z.entry e e.name z.there (stepped z.entry e.name [] e (record {
        entries = l.entries;
        held = ap (λ k. if_dir k (listing_at F z.entry.number z.entry.origin)) z.is_dir ∙ ap (λ k. listing_at F k z.entry.origin) z.number ∙ ap (listing_at F d) z.from ∙ l.held;
        next = e;
        found = named_there l.entries e (listing_storable F d o l.entries l.held) l.there;
        rest = refl;
      }))

  counts_at : (d : ℕ) (o : Origin) → Counts F root d o → StandsAt d o
  counts_at d o top = record { path = []; entry = root_entry root F; there = refl; is_dir = refl; number = refl; from = refl }
  counts_at d o (inside c from e counts lists dir) =
      let z = counts_at c from counts in
      record { path = z.path ++ e.name ∷ []; entry = e; there = entry_there c from e z lists; is_dir = dir; number = refl; from = refl }

  abbrev above : (n : Counted F root) → StandsAt n.directory n.from
  above n = counts_at n.directory n.from n.counts

  abbrev path_of : Counted F root → Path
  path_of n = (above n).path ++ n.entry.name ∷ []

  counted_at : (n : Counted F root) → listed_at F (root_entry root F) (path_of n) ≡ Some n.entry
  counted_at n = entry_there n.directory n.from n.entry (above n) n.listed

  counted_number : (n : Counted F root) → files_number root F (path_of n) ≡ Some n.entry.number
  counted_number n = ap (option_map (λ (e : StoredEntry). e.number)) (counted_at n)

  counted_in : (n : Counted F root) → IsListedIn root F n.directory n.entry
  counted_in n = ((above n).path, ap (option_map (λ (e : StoredEntry). e.number)) (above n).there ∙ ap Some (above n).number, counted_at n)

  -- .. and a directory that stands at one counts
  counts_there : (p : Path) (z e : StoredEntry) → (z.kind ≡ kind.Dir → Counts F root z.number z.origin) → listed_at F z p ≡ Some e → e.kind ≡ kind.Dir
      → Counts F root e.number e.origin
  counts_there [] z e counts at = subst (λ (y : StoredEntry). y.kind ≡ kind.Dir → Counts F root y.number y.origin) (same_Some z e at) counts
  counts_there (n ∷ p) z e counts at =
      let s = step z n p e at in
      let here = only_directory z.kind (listing_at F z.number z.origin) s.entries s.held in
      counts_there p s.next e
      (inside z.number z.origin s.next (counts here.0) (record { entries = s.entries; held = here.1; there = found_there n s.entries s.next s.found })) s.rest

  -- ---- what is found

  pub rescan_found : (next : ℕ) → AreSound F → NumbersAreSound F root → IsNextOf F root next → next ≤ number_end → IsRescanned root F next
  rescan_found next sound numbers found most = record {
    sound = sound;
    good = λ e tree at dir from.
        numbers.good e.number tree (subst (Counts F root e.number) from (counts_there at.0 (root_entry root F) e (λ is. top) at.1 dir));
    shown = subst (λ (S : Numbering). AreShown S next) (sym (numbers_are root F))
        (found_shown F root (root_row root F) next (record { number = refl; is_dir = refl; away = refl; from = refl }) numbers found most);
    above = found.above;
    last = elim found.last [
      | inl least ↦ (1, least, inr ([], refl))
      | inr (inl above) ↦ (above.0.entry.number, above.1, inr (path_of above.0, counted_number above.0))
      | inr (inr file) ↦ (file.0, file.1.1, inl file.1.0)
    ];
  }

  -- .. and back

  same_entry : (m n : Counted F root) → path_of m ≡ path_of n → m.entry ≡ n.entry
  same_entry m n same = same_Some m.entry n.entry (sym (counted_at m) ∙ ap (listed_at F (root_entry root F)) same ∙ counted_at n)

  same_directory : (m n : Counted F root) → path_of m ≡ path_of n → m.directory ≡ n.directory
  same_directory m n same =
      let a = above m in
      let b = above n in
      let name = ap (λ (e : StoredEntry). b.path ++ e.name ∷ []) (sym (same_entry m n same)) in
      let path = append_cancel_right a.path b.path (m.entry.name ∷ []) (same ∙ name) in
      let entry = same_Some a.entry b.entry (sym a.there ∙ ap (listed_at F (root_entry root F)) path ∙ b.there) in
      sym a.number ∙ ap (λ (e : StoredEntry). e.number) entry ∙ b.number

  -- what stands below a directory that counts is an entry of one
  lists_next : (z : StoredEntry) (n : Name) (p : Path) (e : StoredEntry) (s : Step z n p e) → (z.kind ≡ kind.Dir) × ListsEntry F z.number z.origin s.next
  lists_next z n p e s =
      let here = only_directory z.kind (listing_at F z.number z.origin) s.entries s.held in
      (here.0, record { entries = s.entries; held = here.1; there = found_there n s.entries s.next s.found })

  counted_below : (p : Path) (z e : StoredEntry) (n : Name) → (z.kind ≡ kind.Dir → Counts F root z.number z.origin) → listed_at F z (n ∷ p) ≡ Some e
      → (c : Counted F root) × (c.entry ≡ e)
  counted_below [] z e n counts at =
      let s = step z n [] e at in
      let l = lists_next z n [] e s in
      (record { directory = z.number; from = z.origin; entry = s.next; counts = counts l.0; listed = l.1 }, same_Some s.next e s.rest)
  counted_below (m ∷ p) z e n counts at =
      let s = step z n (m ∷ p) e at in
      let l = lists_next z n (m ∷ p) e s in
      counted_below p s.next e m (inside z.number z.origin s.next (counts l.0) l.1) s.rest

  last_as : (next k : ℕ) (p : Path) → next ≡ k + 1 → files_number root F p ≡ Some k
      → (next ≡ number_least) ⊎ ((n : Counted F root) × (next ≡ n.entry.number + 1)) ⊎ ((j : ℕ) × (IsSome (F j) × (next ≡ j + 1)))
  last_as next k [] is at = inl (is ∙ ap (λ j. j + 1) (sym (same_Some 1 k at)))
  last_as next k (n ∷ p) is at =
      let e = map_some (λ (e : StoredEntry). e.number) (listed_at F (root_entry root F) (n ∷ p)) k (sym at) in
      let c = counted_below p (root_entry root F) e.0 n (λ dir. top) e.1.0 in
      inr (inl (c.0, is ∙ ap (λ j. j + 1) (sym (ap (λ (f : StoredEntry). f.number) c.1 ∙ e.1.1))))

  pub rescan_as : (next : ℕ) → IsRescanned root F next → NumbersAreSound F root × IsNextOf F root next
  rescan_as next r = (
    record {
      good = λ d tree counts.
          let z = counts_at d (origin.Object tree) counts in
          subst (λ k. HasGoodNumbers (F k)) z.number (r.good z.entry tree (z.path, z.there) z.is_dir z.from);
      once = λ m n same.
          let path = r.shown.once (path_of m) (path_of n) m.entry.number (counted_number m) (counted_number n ∙ ap Some (sym same)) in
          (same_directory m n path, same_entry m n path);
    },
    record {
      below = λ n. r.shown.below (path_of n) n.entry.number (counted_number n);
      above = r.above;
      least = r.shown.start;
      last = elim r.last.2 [
        | inl file ↦ inr (inr (r.last.0, (file, r.last.1)))
        | inr at ↦ last_as next r.last.0 at.0 r.last.1 at.1
      ];
    },
  )

  -- ---- what is accused

  dangling : (k : ℕ) → IsDangling F root k → (e : StoredEntry) × IsListed root F e × (e.number ≡ k) × (e.origin ≡ origin.Own) × (F k ≡ None)
  dangling k d = let n = d.owned.place in (n.entry, (path_of n, counted_at n), d.owned.has_number, d.owned.is_own, d.absent)

  twice : (k : ℕ) → IsTwiceThere F root k → IsTwice root F k
  twice k t = (
    t.first.directory,
    t.second.directory,
    t.first.entry,
    t.second.entry,
    counted_in t.first,
    counted_in t.second,
    t.first_number,
    t.second_number,
    t.apart,
  )

  -- the root's file, where it is the mount's own
  own_root : (f : Option (List ℕ)) → root_file F ≡ f → root_from root f ≡ origin.Own → root_file F ≡ F 1
  own_root None is own = cc
  own_root (Some bytes) is own =
      let at = and_then_some unless_numbers (F 1) bytes is in
      is ∙ ap Some (sym (plain at.0 (has_numbers at.0) at.1.1)) ∙ sym at.1.0
    where
      plain : (b : List ℕ) (o : Bool) → cond o None (Some b) ≡ Some bytes → b ≡ bytes
      plain b true h = absurd (none-some bytes h)
      plain b false h = same_Some b bytes h

  of_root : (f : Option (List ℕ)) (k : ℕ) (refusal : Refusal) → root_file F ≡ f → k ≡ 1 → Explains identifier.Directory entries_in f (get.Damaged refusal) → IsDamaged root F k refusal
  of_root None k refusal is one why = absurd (why)
  of_root (Some bytes) k refusal is one why =
      let stored : F k ≡ Some bytes = ap F one ∙ sym (own_root (Some bytes) is refl) ∙ is in
      inl (root_entry root F, ([], refl), sym one, ap (root_from root) is, subst (λ (f : Option (List ℕ)). Explains identifier.Directory entries_in f (get.Damaged refusal)) (sym stored) why)

  damaged : (k : ℕ) (refusal : Refusal) → IsDamagedThere F root k refusal → IsDamaged root F k refusal
  damaged k refusal (inl none) = of_root (root_file F) k refusal refl none.0 none.1
  damaged k refusal (inr (inl other)) =
      let n = other.owned.place in
      inl (
        n.entry,
        (path_of n, counted_at n),
        other.owned.has_number,
        other.owned.is_own,
        subst (λ t. ExplainsKind F k t (get.Damaged refusal)) (sym other.owned.has_kind) other.why,
      )
  damaged k refusal (inr (inr (inl bad))) =
      let z = counts_at k (origin.Object bad.tree) bad.counts in
      inr (inl (z.entry, bad.tree, (z.path, z.there), z.number, z.is_dir, z.from, bad.why))
  damaged k refusal (inr (inr (inr none))) = inr (inr none)

  -- .. and back

  counted_on : (e : StoredEntry) (n : Name) (p : Path) → listed_at F (root_entry root F) (n ∷ p) ≡ Some e → (c : Counted F root) × (c.entry ≡ e)
  counted_on e n p at = counted_below p (root_entry root F) e n (λ dir. top) at

  no_root : (f : Option (List ℕ)) → root_file F ≡ f → root_from root f ≡ origin.Own → F 1 ≡ None → ⊥
  no_root None is own absent = cc
  no_root (Some bytes) is own absent = none-some bytes (sym (ap (option_and_then unless_numbers) absent) ∙ is)

  owned_as : (k : ℕ) (e : StoredEntry) (c : Counted F root) → c.entry ≡ e → e.number ≡ k → e.origin ≡ origin.Own → IsOwned F root k e.kind
  owned_as k e c is number own = record {
    place = c;
    has_number = ap (λ (f : StoredEntry). f.number) is ∙ number;
    has_kind = ap (λ (f : StoredEntry). f.kind) is;
    is_own = ap (λ (f : StoredEntry). f.origin) is ∙ own;
  }

  dangling_as : (k : ℕ) (e : StoredEntry) (p : Path) → listed_at F (root_entry root F) p ≡ Some e → e.number ≡ k → e.origin ≡ origin.Own → F k ≡ None → IsDangling F root k
  dangling_as k e [] at number own absent =
      let is = same_Some (root_entry root F) e at in
      absurd (no_root (root_file F) refl (ap (λ (f : StoredEntry). f.origin) is ∙ own) (ap F (ap (λ (f : StoredEntry). f.number) is ∙ number) ∙ absent))
  dangling_as k e (n ∷ p) at number own absent =
      let c = counted_on e n p at in
      record { wanted = e.kind; owned = owned_as k e c.0 c.1 number own; absent = absent }

  split : (p : Path) (x e : StoredEntry) (n : Name) → listed_at F x (p ++ n ∷ []) ≡ Some e
      → (z : StoredEntry) × (listed_at F x p ≡ Some z) × (listed_at F z (n ∷ []) ≡ Some e)
  split [] x e n at = (x, refl, at)
  split (m ∷ p) x e n at =
      let s = step x m (p ++ n ∷ []) e at in
      let r = split p s.next e n s.rest in
      (r.0, stepped x m p r.0 (record { entries = s.entries; held = s.held; next = s.next; found = s.found; rest = r.1 }), r.2)

  counted_as : (d : ℕ) (e : StoredEntry) → IsListedIn root F d e → (c : Counted F root) × (c.directory ≡ d) × (c.entry ≡ e)
  counted_as d e at =
      let z = split at.0 (root_entry root F) e e.name at.2 in
      let s = step z.0 e.name [] e z.2 in
      let l = lists_next z.0 e.name [] e s in (
        record { directory = z.0.number; from = z.0.origin; entry = s.next; counts = counts_there at.0 (root_entry root F) z.0 (λ dir. top) z.1 l.0; listed = l.1 },
        same_Some z.0.number d (sym (ap (option_map (λ (f : StoredEntry). f.number)) z.1) ∙ at.1),
        same_Some s.next e s.rest,
      )

  twice_as : (k : ℕ) → IsTwice root F k → IsTwiceThere F root k
  twice_as k (c, d, e, f, first, second, one, other, apart) =
      let a = counted_as c e first in
      let b = counted_as d f second in
      record {
        first = a.0;
        second = b.0;
        first_number = ap (λ (g : StoredEntry). g.number) a.2 ∙ one;
        second_number = ap (λ (g : StoredEntry). g.number) b.2 ∙ other;
        apart = λ same. apart (sym a.1 ∙ same.0 ∙ b.1, sym a.2 ∙ same.1 ∙ b.2);
      }

  none_of_kind : (k : ℕ) (refusal : Refusal) (e : StoredEntry) (p : Path) → listed_at F (root_entry root F) p ≡ Some e → e.number ≡ k → e.origin ≡ origin.Own
      → ExplainsKind F k e.kind (get.Damaged refusal) → IsDamagedThere F root k refusal
  none_of_kind k refusal e [] at number own why =
      let is = same_Some (root_entry root F) e at in
      let one : 1 ≡ k = ap (λ (f : StoredEntry). f.number) is ∙ number in
      let here : Explains identifier.Directory entries_in (F k) (get.Damaged refusal) =
      subst (λ (f : StoredEntry). ExplainsKind F k f.kind (get.Damaged refusal)) (sym is) why in
      let file : root_file F ≡ F k = own_root (root_file F) refl (ap (λ (f : StoredEntry). f.origin) is ∙ own) ∙ ap F one in
      inl (sym one, subst (λ (f : Option (List ℕ)). Explains identifier.Directory entries_in f (get.Damaged refusal)) (sym file) here)
  none_of_kind k refusal e (n ∷ p) at number own why =
      let c = counted_on e n p at in
      inr (inl (record { wanted = e.kind; owned = owned_as k e c.0 c.1 number own; why = why }))

  damaged_as : (k : ℕ) (refusal : Refusal) → IsDamaged root F k refusal → IsDamagedThere F root k refusal
  damaged_as k refusal (inl (e, at, number, own, why)) = none_of_kind k refusal e at.0 at.1 number own why
  damaged_as k refusal (inr (inl (e, tree, at, number, dir, from, why))) =
      let counts : Counts F root k (origin.Object tree) =
      subst (λ j. Counts F root j (origin.Object tree)) number (subst (Counts F root e.number) from (counts_there at.0 (root_entry root F) e (λ is. top) at.1 dir)) in
      inr (inr (inl (record { tree = tree; counts = counts; why = why })))
  damaged_as k refusal (inr (inr none)) = inr (inr (inr none))

pub accuses_as : AccusesAsOverlay
accuses_as root F old new (rescan.Dangling k) why = λ h. let d = why h in dangling_as root F k d.0 d.1.0 d.1.1 d.2 d.3 d.4
accuses_as root F old new (rescan.Twice k) why = λ h. twice_as root F k (why h)
accuses_as root F old new (rescan.Damaged k refusal) why = λ h. damaged_as root F k refusal (why h)
accuses_as root F old new rescan.Device rose = rose
accuses_as root F old new rescan.Memory none = none

pub finds_as : FindsAsOverlay
finds_as root F next found = rescan_as root F next found

pub rescan_refused : (honest : Type 0) (root : Id) (F : Stored) (old new : ℕ) (fault : RescanFault) → IsRescanFault honest F root old new fault
    → IsRefusal opening.Rescan honest root F old new (of_rescan fault)
rescan_refused honest root F old new (rescan.Dangling k) why = λ h. dangling root F k (why h)
rescan_refused honest root F old new (rescan.Twice k) why = λ h. twice root F k (why h)
rescan_refused honest root F old new (rescan.Damaged k refusal) why = λ h. damaged root F k refusal (why h)
rescan_refused honest root F old new rescan.Device rose = rose
rescan_refused honest root F old new rescan.Memory none = none
