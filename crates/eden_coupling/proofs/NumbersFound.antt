-- What the files of a tied table name stands at a path of it.
use Rattle.std.proofs.Common.{◌≡◌, ◌≢◌, ℕ, true, false, cond, List, [], ◌∷◌, ◌++◌, map, Option, Some, None, Contains, refl, sym, ap, subst, ◌∙◌, inl, inr}
use Rattle.std.proofs.lemmas.Option.{same_Some, none-some}
use Rattle.std.specs.List.Sorted.{IsStrictlySortedBy}
use Rattle.std.specs.Ordering.{nat_cmp}
use Rattle.std.specs.Cmp.Lexicographic.{slice_cmp}
use Rattle.std.specs.Str.{bytes_eq}
use Rattle.std.specs.Option.{option_map, option_and_then}
use Rattle.eden_model.specs.declared.id.Id.{Id}
use Rattle.eden_model.specs.declared.kind.Kind.TheVariants as kind
use Rattle.eden_model.specs.declared.kind.Origin.{Origin}
use Rattle.eden_model.specs.declared.kind.Origin.TheVariants as origin
use Rattle.eden_model.specs.Named.{named}
use Rattle.eden_model.specs.Shown.{if_dir}
use Rattle.eden_model.specs.Trees.{Name, Path}
use Rattle.eden_model.specs.Numbers.{AreOnce}
use Rattle.eden_overlay_format.specs.declared.stored_entry.StoredEntry.{StoredEntry}
use Rattle.eden_overlay_format.specs.Directory.{AreStorable}
use Rattle.eden_overlay_format.specs.Values.{entries_in}
use Rattle.eden_overlay.specs.Files.{Stored}
use Rattle.eden_overlay.specs.Held.{HoldsEntries, entries_at, root_file}
use Rattle.eden_overlay.specs.Soundness.{Names, LeadsOn, here, below, IsLive}
use Rattle.eden_overlay.proofs.CallerLemmas.{held_storable, one_held, entries_at_root}
use Rattle.eden_tree.specs.Directory.{Row, Directory, child_of}
use Rattle.eden_tree.specs.Rows.{find_row}
use Rattle.eden_tree.proofs.CallerLemmas.{find_row-Contains}
use Rattle.eden_coupling.specs.Listings.{full_entry, full_listing, Place, top, inside}
use Rattle.eden_coupling.specs.Loading.{IsAt}
use Rattle.eden_coupling.specs.Ties.{IsAway, SameFile, Ties}
use Rattle.eden_coupling.specs.Numberings.{NumberFiles, number_files, entries_by, stored_below, row_of, row_named, entry_below, entry_at, numbers}
use Rattle.eden_coupling.specs.NumberLoads.{NamesAreShown, SavedAreUnnamed}
use Rattle.eden_coupling.proofs.Chain.{root_loaded}
use Rattle.eden_coupling.proofs.Places.{rising_of, away_row, away_below}
use Rattle.eden_coupling.proofs.Rows.{contains_mapped, mapped_from, as_is}
use Rattle.eden_coupling.proofs.NumbersRead.{below_loaded, below_away, numbers_of_entries, in_memory}

-- ---- an entry of a stored directory is the one of its name

abbrev as_row : StoredEntry → Name × Row
as_row e = (e.name, row_of e)

found_as : (n : Name) (es : List StoredEntry) → row_named n es ≡ find_row n (map as_row es)
found_as n [] = refl
found_as n (e ∷ es) =
    elim (bytes_eq n e.name) as (λ b. option_map row_of (cond b (Some e) (named (λ (s : StoredEntry). s.name) n es)) ≡ cond b (Some (row_of e)) (find_row n (map as_row es))) [
      | true ↦ refl
      | false ↦ found_as n es
    ]

same_names : (es : List StoredEntry) → map (λ (r : Name × Row). r.0) (map as_row es) ≡ map (λ (e : StoredEntry). e.name) es
same_names [] = refl
same_names (e ∷ es) = ap (λ (ns : List Name). e.name ∷ ns) (same_names es)

pub row_there : (es : List StoredEntry) (e : StoredEntry) → AreStorable es → Contains es e → row_named e.name es ≡ Some (row_of e)
row_there es e are there =
    found_as e.name es
    ∙ find_row-Contains e.name (map as_row es) (row_of e) (subst (IsStrictlySortedBy (slice_cmp nat_cmp)) (sym (same_names es)) are.rising) (contains_mapped as_row es e there)

-- ---- paths

pub entry_on : (M : NumberFiles) (x : Row) (a r : Path) → entry_at M x (a ++ r) ≡ option_and_then (λ z. entry_at M z r) (entry_at M x a)
entry_on M x [] r = refl
entry_on M x (n ∷ a) r = below_by (entry_below M x n) (λ z. entry_on M z a r)
  where
    below_by : (o : Option Row) → ((z : Row) → entry_at M z (a ++ r) ≡ option_and_then (λ w. entry_at M w r) (entry_at M z a))
        → option_and_then (λ z. entry_at M z (a ++ r)) o ≡ option_and_then (λ w. entry_at M w r) (option_and_then (λ z. entry_at M z a) o)
    below_by None each = refl
    below_by (Some z) each = each z

pub one_below : (M : NumberFiles) (x z w : Row) (a : Path) (n : Name) → entry_at M x a ≡ Some z → entry_below M z n ≡ Some w → entry_at M x (a ++ n ∷ []) ≡ Some w
one_below M x z w a n at there =
    entry_on M x a (n ∷ []) ∙ ap (option_and_then (λ v. entry_at M v (n ∷ []))) at ∙ ap (option_and_then (λ v. entry_at M v [])) there

pub number_at : (M : NumberFiles) (x z : Row) (a : Path) → entry_at M x a ≡ Some z → numbers M x a ≡ Some z.number
number_at M x z a at = numbers_of_entries M x a ∙ ap (option_map (λ (w : Row). w.number)) at

not_empty : {Y : Type 0} (p : Path) (n : Name) → [] ≡ p ++ n ∷ [] → Y
not_empty [] n e = cc
not_empty (m ∷ p) n e = cc

pub same_front : (p q : Path) (n m : Name) → p ++ n ∷ [] ≡ q ++ m ∷ [] → p ≡ q
same_front [] [] n m e = refl
same_front [] (b ∷ q) n m e = let rest : [] ≡ q ++ m ∷ [] = cc in not_empty q m rest
same_front (a ∷ p) [] n m e = let rest : [] ≡ p ++ n ∷ [] = cc in not_empty p n rest
same_front (a ∷ p) (b ∷ q) n m e =
    let first : a ≡ b = cc in
    let rest : p ++ n ∷ [] ≡ q ++ m ∷ [] = cc in
    let fronts : p ≡ q = same_front p q n m rest in cc

-- ---- the live directories

none_if : {X : Type 0} (o : Option X) → ((x : X) → o ≡ Some x → ⊥) → o ≡ None
none_if None never = refl
none_if (Some x) never = absurd (never x refl)

-- without the root's file there are no entries in its place
no_entries : (F : Stored) → root_file F ≡ None → entries_at F 1 ≡ None
no_entries F none = none_if (entries_at F 1) (λ es. entries_at_root F es none)

module _ (F full : Stored) (saved : ℕ → Id → Option (List StoredEntry)) (x : Row) (next : ℕ) (dir : x.kind ≡ kind.Dir) (t : Ties F full x next) where
  abbrev M : NumberFiles
  M = number_files F saved

  -- an entry whose directory is loaded, or its own and stored alike; or the root's, of which nothing is stored
  data Stands (z : Row) : Type 0 where
    in_table : (d : Directory) → Place x z → child_of z ≡ Some d → Stands z
    in_files : child_of z ≡ None → IsAway x z.number → SameFile F full z.number → z.origin ≡ origin.Own → z.kind ≡ kind.Dir → Stands z
    nowhere : entries_at F z.number ≡ None → SameFile F full z.number → Stands z

  -- what it names stands below it
  record IsBelow (z : Row) (e : StoredEntry) : Type 0 where
    row : Row
    there : entry_below M z e.name ≡ Some row
    number : row.number ≡ e.number
    stands : LeadsOn e → Stands row
    own : child_of z ≡ None → z.origin ≡ origin.Own

  no_directory : {Y : Type 0} (o : Option Directory) (d : Directory) → o ≡ Some d → o ≡ None → Y
  no_directory o d a b = cc

  row_stands : (z w : Row) (d : Directory) (n : Name) (e : StoredEntry) (o : Option Directory) → child_of w ≡ o → Place x z → child_of z ≡ Some d → find_row n d.rows ≡ Some w
      → full_entry (n, w) ≡ e → IsLive full z.number → Names full z.number e → LeadsOn e → Stands w
  row_stands z w d n e (Some c) holds place loaded found is live names leads = in_table c (inside z d n w place loaded found) holds
  row_stands z w d n e None none place loaded found is live names leads =
      let number : e.number ≡ w.number = ap (λ (s : StoredEntry). s.number) (sym is) in
      let away = away_row full x next t.fits z d n w place loaded found none in
      in_files none away
      (subst (λ (k : ℕ). SameFile F full k) number (t.same z.number e live names leads.1 (subst (λ (k : ℕ). IsAway x k) (sym number) away)))
      (sym (as_is w none) ∙ ap (λ (s : StoredEntry). s.origin) is ∙ leads.1)
      (ap (λ (s : StoredEntry). s.kind) is ∙ leads.0)

  held_before : (k : ℕ) (es : List StoredEntry) → SameFile F full k → HoldsEntries full k es → HoldsEntries F k es
  held_before k es (inl same) h = ap (option_and_then entries_in) same ∙ h
  held_before k es (inr s) h = subst (λ (l : List StoredEntry). HoldsEntries F k l) (one_held full k s.0 es s.1.1 h) s.1.0

  stored_own : (z : Row) (es : List StoredEntry) → z.origin ≡ origin.Own → z.kind ≡ kind.Dir → HoldsEntries F z.number es → stored_below M z ≡ Some es
  stored_own z es own is_dir held = ap (λ k. if_dir k (entries_by M z.number z.origin)) is_dir ∙ ap (entries_by M z.number) own ∙ held

  entry_of : (z : Row) (e : StoredEntry) → Stands z → IsLive full z.number → Names full z.number e → IsBelow z e
  entry_of z e (in_table d place holds) live names =
      let listed : Contains (full_listing d) e =
      subst (λ (es : List StoredEntry). Contains es e) (one_held full z.number names.entries (full_listing d) names.held (t.fits.held z d place holds)) names.there in
      let from = mapped_from full_entry d.rows e listed in
      let name : from.0.0 ≡ e.name = ap (λ (s : StoredEntry). s.name) from.1.1 in
      let found : find_row from.0.0 d.rows ≡ Some from.0.1 = find_row-Contains from.0.0 d.rows from.0.1 (rising_of full x next t.fits z d place holds) from.1.0 in
      record {
        row = from.0.1;
        there = below_loaded M z d e.name holds ∙ ap (λ (n : Name). find_row n d.rows) (sym name) ∙ found;
        number = ap (λ (s : StoredEntry). s.number) from.1.1;
        stands = λ leads. row_stands z from.0.1 d from.0.0 e (child_of from.0.1) refl place holds found from.1.1 live names leads;
        own = λ none. no_directory (child_of z) d holds none;
      }
  entry_of z e (in_files none away same own is_dir) live names =
      let held = held_before z.number names.entries same names.held in
      record {
        row = row_of e;
        there = below_away M z e.name none ∙ ap (option_and_then (row_named e.name)) (stored_own z names.entries own is_dir held)
            ∙ row_there names.entries e (held_storable full z.number names.entries names.held) names.there;
        number = refl;
        stands = λ leads. (let far = away_below full x next t.fits z.number e live names away in in_files refl far (t.same z.number e live names leads.1 far) leads.1 leads.0);
        own = λ _. own;
      }
  entry_of z e (nowhere none same) live names = absurd (none-some names.entries (sym none ∙ held_before z.number names.entries same names.held))

  record IsFound (c : ℕ) : Type 0 where
    path : Path
    row : Row
    at : entry_at M x path ≡ Some row
    number : row.number ≡ c
    stands : Stands row

  root_by : (o : Option Directory) (w : Origin) → child_of x ≡ o → x.origin ≡ w → Stands x
  root_by (Some d) w holds is = in_table d top holds
  root_by None origin.Own none own =
      in_files none (λ y d place holds is. root_loaded x y d place holds none) (subst (λ (k : ℕ). SameFile F full k) (sym t.fits.root) (t.same_root none)) own dir
  root_by None (origin.Object id) none is =
      nowhere (ap (entries_at F) t.fits.root ∙ no_entries F (t.rootless (λ own. (let both : origin.Object id ≡ origin.Own = sym is ∙ own in cc))))
      (subst (λ (k : ℕ). SameFile F full k) (sym t.fits.root) (t.same_root none))
  root_by None origin.Empty none is =
      nowhere (ap (entries_at F) t.fits.root ∙ no_entries F (t.rootless (λ own. (let both : origin.Empty ≡ origin.Own = sym is ∙ own in cc))))
      (subst (λ (k : ℕ). SameFile F full k) (sym t.fits.root) (t.same_root none))

  -- the entry that a found directory names
  below_found : (c : ℕ) (e : StoredEntry) → (f : IsFound c) → IsLive full c → Names full c e → IsBelow f.row e
  below_found c e f live names =
      entry_of f.row e f.stands (subst (IsLive full) (sym f.number) live) (subst (λ (k : ℕ). Names full k e) (sym f.number) names)

  found : (c : ℕ) → IsLive full c → IsFound c
  found c here = record { path = []; row = x; at = refl; number = t.fits.root; stands = root_by (child_of x) x.origin refl refl }
  found c (below b e r n leads) =
      let f = found b r in
      let w = below_found b e f r n in
      record { path = f.path ++ e.name ∷ []; row = w.row; at = one_below M x f.row w.row f.path e.name f.at w.there; number = w.number; stands = w.stands leads }

  named_at : (c : ℕ) (e : StoredEntry) (live : IsLive full c) (names : Names full c e) → numbers M x ((found c live).path ++ e.name ∷ []) ≡ Some e.number
  named_at c e live names =
      let f = found c live in
      let w = below_found c e f live names in
      number_at M x w.row (f.path ++ e.name ∷ []) (one_below M x f.row w.row f.path e.name f.at w.there) ∙ ap (λ (k : ℕ). Some k) w.number

  module _ (once : AreOnce (numbers M x)) (p : Path) (id : Id) (es : List StoredEntry) (at : IsAt p x (origin.Object id)) (had : saved at.row.number id ≡ Some es) (are : AreStorable es) where
    saved_there : (g : StoredEntry) → Contains es g → entry_below M at.row g.name ≡ Some (row_of g)
    saved_there g there =
        below_away M at.row g.name at.unloaded
        ∙ ap (option_and_then (row_named g.name)) (ap (λ k. if_dir k (entries_by M at.row.number at.row.origin)) at.kind ∙ ap (entries_by M at.row.number) at.origin ∙ had)
        ∙ row_there es g are there

    unnamed : (g : StoredEntry) → Contains es g → (c : ℕ) (e : StoredEntry) → IsLive full c → Names full c e → g.number ≢ e.number
    unnamed g there c e live names same =
        let y = at.row in
        let f = found c live in
        let here = in_memory M x y p at.there in
        let mine = number_at M x (row_of g) (p ++ g.name ∷ []) (one_below M x y (row_of g) p g.name here (saved_there g there)) in
        let its = named_at c e live names ∙ ap (λ (k : ℕ). Some k) (sym same) in
        let one : p ≡ f.path = same_front p f.path g.name e.name (once (p ++ g.name ∷ []) (f.path ++ e.name ∷ []) g.number mine its) in
        let is : f.row ≡ y = same_Some f.row y (sym f.at ∙ ap (entry_at M x) (sym one) ∙ here) in
        let w = below_found c e f live names in
        let own : y.origin ≡ origin.Own = ap (λ (r : Row). r.origin) (sym is) ∙ w.own (ap child_of is ∙ at.unloaded) in
        let both : origin.Object id ≡ origin.Own = sym at.origin ∙ own in
        absurd (cc)

pub names_are_shown : NamesAreShown
names_are_shown F full saved x next dir t c e live names = ((found F full saved x next dir t c live).path ++ e.name ∷ [], named_at F full saved x next dir t c e live names)

pub saved_are_unnamed : SavedAreUnnamed
saved_are_unnamed F full saved x next dir t once p id es at had are g there c f live names = unnamed F full saved x next dir t once p id es at had are g there c f live names
