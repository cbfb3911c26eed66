-- What is told of names tells exactly where what is shown differs from the commit's tree.
use Rattle.std.proofs.Common.{◌≡◌, ◌≢◌, ◌⊎◌, inl, inr, ℕ, Bool, true, false, cond, ◌==◌, ◌&&◌, List, [], ◌∷◌, ◌++◌, Option, Some, None, IsSome, Contains}
use Rattle.std.proofs.Common.{refl, sym, ap, ◌∙◌, subst, append-nil}
use Rattle.std.specs.List.Sorted.{IsStrictlySortedBy}
use Rattle.std.specs.Map.{lookup}
use Rattle.std.specs.Option.{option_map, unwrap_or, is_some}
use Rattle.std.proofs.lemmas.Bool.{eqb-true}
use Rattle.std.proofs.lemmas.List.Elements.{Contains-append_cases}
use Rattle.eden_model.specs.declared.id.Id.{Id}
use Rattle.eden_model.specs.declared.kind.Kind.{Kind}
use Rattle.eden_model.specs.declared.kind.Kind.TheVariants as kind
use Rattle.eden_model.specs.declared.kind.Mode.{Mode}
use Rattle.eden_model.specs.declared.kind.Mode.TheVariants as mode
use Rattle.eden_model.specs.declared.kind.Origin.{Origin}
use Rattle.eden_model.specs.declared.kind.Origin.TheVariants as origin
use Rattle.eden_model.specs.declared.node.Node.{Node}
use Rattle.eden_model.specs.declared.node.Node.TheVariants as node
use Rattle.eden_model.specs.declared.tree_entry.TreeEntry.{TreeEntry}
use Rattle.eden_model.specs.Keys.{same_id}
use Rattle.eden_model.specs.Named.{AreRising}
use Rattle.eden_model.specs.Operations.{kind_of}
use Rattle.eden_model.specs.Repository.{Repository, Source, Object, Own, Empty, source_of, item_by, entry_named, ground_with, Whole}
use Rattle.eden_model.specs.Repository as repository
use Rattle.eden_model.specs.Shown.{Item, Ground, node_of, shown, shown_at}
use Rattle.eden_model.specs.Trees.{Name, Path, Tree}
use Rattle.eden_model.proofs.CallerLemmas.{same_id-Decides}
use Rattle.eden_overlay_format.specs.declared.stored_entry.StoredEntry.{StoredEntry}
use Rattle.eden_overlay_format.specs.Directory.{HasOrigin}
use Rattle.eden_overlay.specs.Files.{Stored}
use Rattle.eden_overlay.specs.Held.{HoldsEntries, item_of, items_of, own_files, root_file}
use Rattle.eden_overlay.proofs.CallerLemmas.{held_storable}
use Rattle.eden_snapshot.specs.declared.change.Change.{Change}
use Rattle.eden_snapshot.specs.declared.change.How.TheVariants as how
use Rattle.eden_snapshot.specs.declared.rows.Row.{Row}
use Rattle.eden_snapshot.specs.Changes.{Told, Stand, StandsAs, StandsBy, StandsAsBlob, own_directory, own_directory_by, number_of, sort_of, is_same, is_tree, is_whole, told_of, change_of}
use Rattle.eden_snapshot.specs.Changes.{Differ, none, alone, within, HasInside, TellsAll, untouched, own}
use Rattle.eden_snapshot.specs.Changes.{DifferSoFar, stopped, passed, begun, entered, TellsSome, TellsAllSoFar}
use Rattle.eden_snapshot.specs.Commits.{Place, mode_and_id, place_named}
use Rattle.eden_snapshot.specs.Exact.{shows_as, sort_shown, TellsLess, AreApart, LeadsTo, added, removed, modified, retyped, IsCovered, GrowsExactly, GrowsTruly, HasBlobs}
use Rattle.eden_snapshot.specs.Rows.{Rows, AreRows, nothing, is_name, row_in, stored_named}
use Rattle.eden_snapshot.specs.Showing.{FilesShow}
use Rattle.eden_snapshot.specs.Written.{mode_of}
use Rattle.eden_snapshot.proofs.Found.{fine}
use Rattle.eden_snapshot.proofs.Thinned.{dir, at_top, at_name, own_entries, tree_entries, by_kind, commit_shows, own_shows}
use Rattle.eden_snapshot.proofs.Wholes.{whole_alike}
use Rattle.eden_snapshot.proofs.Turned.{up, other_sort, IsTold, told_as, same_stands, whole_told}
use Rattle.eden_snapshot.proofs.Named.{told_name, absent, behind, at_first, at_later, IsFine, AreAllFine, all_fine}
use Rattle.eden_snapshot.proofs.Covered.{one_of, nothing_in, covered_left, covered_right, one_in, only_in, below_of, never_leads, any_id}

-- ---- what a row showed and shows

module _ (R : Repository) (F : Stored) where
  abbrev G : Ground Source
  G = ground_with R (own_files F)

  abbrev place_item : Place → Item Source
  place_item place = item_by place.0 place.1

  abbrev was : Option Place → Tree
  was o = shown_at G (option_map place_item o)

  abbrev is : Option StoredEntry → Tree
  is o = shown_at G (option_map item_of o)

  node_kind : (m : Mode) (id : Id) → kind_of (node_of G (item_by m id)) ≡ shows_as m
  node_kind mode.File id = refl
  node_kind mode.Exec id = refl
  node_kind mode.Link id = refl
  node_kind mode.Dir id = refl
  node_kind mode.Gitlink id = refl

  node_sort : (m : Mode) (id : Id) → sort_shown (node_of G (item_by m id)) ≡ up (sort_of m)
  node_sort mode.File id = refl
  node_sort mode.Exec id = refl
  node_sort mode.Link id = refl
  node_sort mode.Dir id = refl
  node_sort mode.Gitlink id = refl

  -- below what is no tree there is nothing
  bare_below : (m : Mode) (id : Id) (n : Name) (p : Path) → is_tree m ≡ false → shown G (item_by m id) (n ∷ p) ≡ None
  bare_below mode.File id n p bare = refl
  bare_below mode.Exec id n p bare = refl
  bare_below mode.Link id n p bare = refl
  bare_below mode.Dir id n p bare = absurd (cc)
  bare_below mode.Gitlink id n p bare = refl

  item_is : (e : StoredEntry) (k : Kind) (o : Origin) → e.kind ≡ k → e.origin ≡ o → item_of e ≡ record { kind = k; source = source_of e.number o }
  item_is e k o at_kind at_origin =
      let by_kind_of : Kind → Item Source = λ j. record { kind = j; source = source_of e.number e.origin } in
      let by_origin : Origin → Item Source = λ p. record { kind = k; source = source_of e.number p } in
      ap by_kind_of at_kind ∙ ap by_origin at_origin

  -- ---- in a repository with the blobs

  module _ (has : HasBlobs R F) where
    -- one id, where it is that of one blob
    one_blob : (i j : Id) (bytes : List ℕ) → R.blob i ≡ Some bytes → R.blob j ≡ Some bytes → same_id i j ≡ false → ⊥
    one_blob i j bytes at there differ =
        let same : i.bytes ≡ j.bytes = has.own_ids i bytes at ∙ sym (has.own_ids j bytes there) in
        let is_one : i ≡ j = λ k. record { bytes = same k } in
        let wrong = (same_id-Decides i j).1 is_one in
        absurd (cc)

    lost_file : (x : Bool) (i j : Id) (o : Option (List ℕ)) → R.blob i ≡ o → R.blob i ≡ R.blob j → same_id i j ≡ false → TellsLess (node.File x (R.blob i))
    lost_file x i j None at same differ = subst (λ (o : Option (List ℕ)). TellsLess (node.File x o)) (sym at) tt
    lost_file x i j (Some bytes) at same differ = absurd (one_blob i j bytes at (sym same ∙ at) differ)

    lost_link : (i j : Id) (o : Option (List ℕ)) → R.blob i ≡ o → R.blob i ≡ R.blob j → same_id i j ≡ false → TellsLess (node.Link (R.blob i))
    lost_link i j None at same differ = subst (λ (o : Option (List ℕ)). TellsLess (node.Link o)) (sym at) tt
    lost_link i j (Some bytes) at same differ = absurd (one_blob i j bytes at (sym same ∙ at) differ)

    contents_same : (x : Bool) (i j : Id) → node.File x (R.blob i) ≡ node.File x (R.blob j) → R.blob i ≡ R.blob j
    contents_same x i j same = cc

    targets_same : (i j : Id) → node.Link (R.blob i) ≡ node.Link (R.blob j) → R.blob i ≡ R.blob j
    targets_same i j same = cc

    apart : (m n : Mode) (i j : Id) → (sort_of m == sort_of n) ≡ true → (number_of m == number_of n) && same_id i j ≡ false
        → AreApart (node_of G (item_by m i)) (node_of G (item_by n j))
    apart mode.File mode.File i j sorted differ = λ same. lost_file false i j (R.blob i) refl (contents_same false i j same) differ
    apart mode.File mode.Exec i j sorted differ = λ same. absurd (cc)
    apart mode.File mode.Link i j sorted differ = λ same. absurd (cc)
    apart mode.File mode.Dir i j sorted differ = λ same. absurd (cc)
    apart mode.File mode.Gitlink i j sorted differ = λ same. absurd (cc)
    apart mode.Exec mode.File i j sorted differ = λ same. absurd (cc)
    apart mode.Exec mode.Exec i j sorted differ = λ same. lost_file true i j (R.blob i) refl (contents_same true i j same) differ
    apart mode.Exec mode.Link i j sorted differ = λ same. absurd (cc)
    apart mode.Exec mode.Dir i j sorted differ = λ same. absurd (cc)
    apart mode.Exec mode.Gitlink i j sorted differ = λ same. absurd (cc)
    apart mode.Link mode.File i j sorted differ = λ same. absurd (cc)
    apart mode.Link mode.Exec i j sorted differ = λ same. absurd (cc)
    apart mode.Link mode.Link i j sorted differ = λ same. lost_link i j (R.blob i) refl (targets_same i j same) differ
    apart mode.Link mode.Dir i j sorted differ = λ same. absurd (cc)
    apart mode.Link mode.Gitlink i j sorted differ = λ same. absurd (cc)
    apart mode.Dir n i j sorted differ = λ same. tt
    apart mode.Gitlink n i j sorted differ = λ same. tt

    -- ---- what an entry stands as shows what the entry shows

    abbrev ById : StoredEntry → Stand → Type 0
    ById e stand = (m : Mode) × ((id : Id) × ((stand ≡ (m, Some id)) × ((p : Path) → shown G (item_of e) p ≡ shown G (item_by m id) p)))

    abbrev ByPlace : StoredEntry → Stand → Type 0
    ByPlace e stand = (stand ≡ (mode.Gitlink, None)) × ((id : Id) (p : Path) → shown G (item_of e) p ≡ shown G (item_by mode.Gitlink id) p)

    as_leaf : (k : Kind) (s t : Source) → k ≢ kind.Dir → G.content s ≡ G.content t → (p : Path)
        → shown G (record { kind = k; source = s }) p ≡ shown G (record { kind = k; source = t }) p
    as_leaf kind.File s t plain same [] = ap (λ (c : Option (List ℕ)). Some (node.File false c)) same
    as_leaf kind.Exec s t plain same [] = ap (λ (c : Option (List ℕ)). Some (node.File true c)) same
    as_leaf kind.Link s t plain same [] = ap (λ (c : Option (List ℕ)). Some (node.Link c)) same
    as_leaf kind.Dir s t plain same p = absurd (plain refl)
    as_leaf kind.File s t plain same (n ∷ p) = refl
    as_leaf kind.Exec s t plain same (n ∷ p) = refl
    as_leaf kind.Link s t plain same (n ∷ p) = refl

    by_content : (e : StoredEntry) (k : Kind) (stand : Stand) → e.kind ≡ k → e.origin ≡ origin.Own → k ≢ kind.Dir → StandsAsBlob F e.number (mode_of k) stand → ById e stand
    by_content e k stand at_kind mine plain s =
        let id = s.0 in
        let bytes = s.1.1.0 in
        let blob : R.blob id ≡ Some bytes = (has.contents e.number bytes s.1.1.1.0 id).blob (sym s.1.1.1.1) bytes refl in
        let same : (p : Path) → shown G (item_of e) p ≡ shown G (item_by (mode_of k) id) p = λ p.
        ap (λ (i : Item Source). shown G i p) (item_is e k origin.Own at_kind mine)
        ∙ as_leaf k (Own e.number) (Object id) plain (s.1.1.1.0 ∙ sym blob) p
        ∙ ap (λ (i : Item Source). shown G i p) (sym (by_kind k id)) in
        (mode_of k, (id, (s.1.0, same)))

    stands_by : (e : StoredEntry) (o : Origin) (k : Kind) (stand : Stand) → e.origin ≡ o → e.kind ≡ k → HasOrigin k o → own_directory_by e.number k o ≡ None
        → StandsBy F e.number k o stand → ById e stand ⊎ ByPlace e stand
    stands_by e (origin.Object id) k stand at_origin at_kind has_origin none_own s =
        let same : (p : Path) → shown G (item_of e) p ≡ shown G (item_by (mode_of k) id) p = λ p.
        ap (λ (i : Item Source). shown G i p) (item_is e k (origin.Object id) at_kind at_origin ∙ sym (by_kind k id)) in
        inl (mode_of k, (id, (s, same)))
    stands_by e origin.Own kind.File stand at_origin at_kind has_origin none_own s = inl (by_content e kind.File stand at_kind at_origin (λ h. absurd (cc)) s)
    stands_by e origin.Own kind.Exec stand at_origin at_kind has_origin none_own s = inl (by_content e kind.Exec stand at_kind at_origin (λ h. absurd (cc)) s)
    stands_by e origin.Own kind.Link stand at_origin at_kind has_origin none_own s = inl (by_content e kind.Link stand at_kind at_origin (λ h. absurd (cc)) s)
    stands_by e origin.Own kind.Dir stand at_origin at_kind has_origin none_own s = absurd (cc)
    stands_by e origin.Empty k stand at_origin at_kind has_origin none_own s =
        let same : (id : Id) (p : Path) → shown G (item_of e) p ≡ shown G (item_by mode.Gitlink id) p = λ id p.
        ap (λ (i : Item Source). shown G i p) (item_is e kind.Dir origin.Empty (at_kind ∙ has_origin) at_origin) in
        inr (s, same)

    stands : (e : StoredEntry) (stand : Stand) → IsFine (Some e) → own_directory (Some e) ≡ None → StandsAs F (Some e) (Some stand) → ById e stand ⊎ ByPlace e stand
    stands e stand fine_e none_own s = stands_by e e.origin e.kind stand refl refl fine_e none_own s

    -- ---- one row

    -- what there is leads to what is shown, by that node
    leads_by : (place : Place) (stand : Stand) (y : Node) (c : Change) → kind_of y ≡ shows_as stand.0 → sort_shown y ≡ up (sort_of stand.0)
        → ((sort_of place.0 == sort_of stand.0) ≡ true → is_same place stand ≡ false → AreApart (node_of G (place_item place)) y) → IsTold place stand c
        → LeadsTo c (Some (node_of G (place_item place))) (Some y)
    leads_by place stand y c at_kind at_sort differ (inl at) =
        modified c (node_of G (place_item place)) y (ap (λ (d : Change). d.how) (sym at.1.1)) (at_kind ∙ ap (λ (d : Change). shows_as d.mode) at.1.1)
        (node_sort place.0 place.1 ∙ ap up (eqb-true (sort_of place.0) (sort_of stand.0) at.0) ∙ sym at_sort) (differ at.0 at.1.0)
    leads_by place stand y c at_kind at_sort differ (inr at) =
        retyped c (node_of G (place_item place)) y (ap (λ (d : Change). d.how) (sym at.1)) (at_kind ∙ ap (λ (d : Change). shows_as d.mode) at.1)
        (λ same. node_sort place.0 place.1 ∙ other_sort place.0 stand.0 at.0 (sym (node_sort place.0 place.1) ∙ same ∙ at_sort))

    first_leads : (stand : Stand) (y : Node) (c : Change) → kind_of y ≡ shows_as stand.0 → change_of None (Some stand) ≡ Some c → LeadsTo c None (Some y)
    first_leads stand y c at_kind h =
        let told : Change = record { how = how.Added; mode = stand.0; whole = is_whole false stand } in
        let same : told ≡ c = cc in
        added c y (ap (λ (d : Change). d.how) (sym same)) (at_kind ∙ ap (λ (d : Change). shows_as d.mode) same)

    gone_leads : (place : Place) (c : Change) → change_of (Some place) None ≡ Some c → LeadsTo c (Some (node_of G (place_item place))) None
    gone_leads place c h =
        let told : Change = record { how = how.Removed; mode = place.0; whole = is_tree place.0 } in
        let same : told ≡ c = cc in
        removed c (node_of G (place_item place)) (ap (λ (d : Change). d.how) (sym same)) (node_kind place.0 place.1 ∙ ap (λ (d : Change). shows_as d.mode) same)

    -- what is shown as a directory tells less
    dir_apart : (m : Mode) (i : Id) (y : Node) → up (sort_of m) ≡ 2 → AreApart (node_of G (item_by m i)) y
    dir_apart mode.File i y h = absurd (cc)
    dir_apart mode.Exec i y h = absurd (cc)
    dir_apart mode.Link i y h = absurd (cc)
    dir_apart mode.Dir i y h = λ same. tt
    dir_apart mode.Gitlink i y h = λ same. tt

    -- of an entry that isn't looked into

    by_id_leads : (o : Option Place) (m : Mode) (id : Id) (c : Change) → change_of o (Some (m, Some id)) ≡ Some c → LeadsTo c (was o []) (Some (node_of G (item_by m id)))
    by_id_leads None m id c h = first_leads (m, Some id) (node_of G (item_by m id)) c (node_kind m id) h
    by_id_leads (Some place) m id c h =
        leads_by place (m, Some id) (node_of G (item_by m id)) c (node_kind m id) (node_sort m id) (λ sorted differ. apart place.0 m place.1 id sorted differ)
        (told_as place (m, Some id) c h)

    by_place_leads : (o : Option Place) (id : Id) (c : Change) → change_of o (Some (mode.Gitlink, None)) ≡ Some c
        → LeadsTo c (was o []) (Some (node_of G (item_by mode.Gitlink id)))
    by_place_leads None id c h = first_leads (mode.Gitlink, None) (node_of G (item_by mode.Gitlink id)) c refl h
    by_place_leads (Some place) id c h =
        leads_by place (mode.Gitlink, None) (node_of G (item_by mode.Gitlink id)) c refl refl
        (λ sorted differ. dir_apart place.0 place.1 (node_of G (item_by mode.Gitlink id)) (ap up (eqb-true (sort_of place.0) 3 sorted)))
        (told_as place (mode.Gitlink, None) c h)

    leads_shown : (o : Option Place) (e : StoredEntry) (stand : Stand) (c : Change) → ById e stand ⊎ ByPlace e stand → change_of o (Some stand) ≡ Some c
        → LeadsTo c (was o []) (shown G (item_of e) [])
    leads_shown o e stand c (inl by) h =
        let m = by.0 in
        let id = by.1.0 in
        let led = by_id_leads o m id c (sym (ap (λ (s : Stand). change_of o (Some s)) by.1.1.0) ∙ h) in
        subst (λ (q : Option Node). LeadsTo c (was o []) q) (sym (by.1.1.1 [])) led
    leads_shown o e stand c (inr by) h =
        let led = by_place_leads o any_id c (sym (ap (λ (s : Stand). change_of o (Some s)) by.0) ∙ h) in
        subst (λ (q : Option Node). LeadsTo c (was o []) q) (sym (by.1 any_id [])) led

    leads_now : (o : Option Place) (e : Option StoredEntry) (stand : Option Stand) (c : Change) → IsFine e → own_directory e ≡ None → StandsAs F e stand
        → change_of o stand ≡ Some c → LeadsTo c (was o []) (is e [])
    leads_now None None None c fine_e none_own s h = absurd (cc)
    leads_now (Some place) None None c fine_e none_own s h = gone_leads place c h
    leads_now o None (Some stand) c fine_e none_own s h = absurd s
    leads_now o (Some e) None c fine_e none_own s h = absurd s
    leads_now o (Some e) (Some stand) c fine_e none_own s h = leads_shown o e stand c (stands e stand fine_e none_own s) h

    -- where none is told both are alike
    same_items : (o : Option Place) (m : Mode) (id : Id) → change_of o (Some (m, Some id)) ≡ None → (p : Path) → shown G (item_by m id) p ≡ was o p
    same_items None m id h p = absurd (cc)
    same_items (Some place) m id h p =
        let same = same_stands place (m, Some id) h in
        let at : place.1 ≡ id = (same_id-Decides place.1 id).0 same.1 in
        ap (λ (k : Mode). shown G (item_by k id) p) (sym same.0) ∙ ap (λ (i : Id). shown G (item_by place.0 i) p) (sym at)

    same_places : (o : Option Place) (e : StoredEntry) → ((id : Id) (p : Path) → shown G (item_of e) p ≡ shown G (item_by mode.Gitlink id) p)
        → change_of o (Some (mode.Gitlink, None)) ≡ None → (p : Path) → shown G (item_of e) p ≡ was o p
    same_places None e each h p = absurd (cc)
    same_places (Some place) e each h p =
        let same = same_stands place (mode.Gitlink, None) h in
        each place.1 p ∙ ap (λ (k : Mode). shown G (item_by k place.1) p) (sym same.0)

    same_shown : (o : Option Place) (e : StoredEntry) (stand : Stand) → ById e stand ⊎ ByPlace e stand → change_of o (Some stand) ≡ None → (p : Path)
        → shown G (item_of e) p ≡ was o p
    same_shown o e stand (inl by) h p =
        by.1.1.1 p ∙ same_items o by.0 by.1.0 (sym (ap (λ (s : Stand). change_of o (Some s)) by.1.1.0) ∙ h) p
    same_shown o e stand (inr by) h p = same_places o e by.1 (sym (ap (λ (s : Stand). change_of o (Some s)) by.0) ∙ h) p

    alike_now : (o : Option Place) (e : Option StoredEntry) (stand : Option Stand) → IsFine e → own_directory e ≡ None → StandsAs F e stand
        → change_of o stand ≡ None → (p : Path) → is e p ≡ was o p
    alike_now None None None fine_e none_own s h p = refl
    alike_now (Some place) None None fine_e none_own s h p = absurd (cc)
    alike_now o None (Some stand) fine_e none_own s h p = absurd s
    alike_now o (Some e) None fine_e none_own s h p = absurd s
    alike_now o (Some e) (Some stand) fine_e none_own s h p = same_shown o e stand (stands e stand fine_e none_own s) h p

    -- below what is told both are alike, unless it is told by its top alone
    abbrev WholeOr : Change → Option Place → Tree → Type 0
    WholeOr c o T = (c.whole ≡ true) ⊎ ((n : Name) (p : Path) → T (n ∷ p) ≡ was o (n ∷ p))

    abbrev was_tree : Option Place → Bool
    was_tree None = false
    was_tree (Some place) = is_tree place.0

    bare_was : (o : Option Place) (n : Name) (p : Path) → was_tree o ≡ false → was o (n ∷ p) ≡ None
    bare_was None n p bare = refl
    bare_was (Some place) n p bare = bare_below place.0 place.1 n p bare

    whole_is : (o : Option Place) (stand : Stand) (c : Change) → change_of o (Some stand) ≡ Some c → c.whole ≡ is_whole (was_tree o) stand
    whole_is None stand c h =
        let told : Change = record { how = how.Added; mode = stand.0; whole = is_whole false stand } in
        let same : told ≡ c = cc in
        ap (λ (d : Change). d.whole) (sym same)
    whole_is (Some place) stand c h = whole_told place stand c h

    whole_gone : (place : Place) (c : Change) → change_of (Some place) None ≡ Some c → c.whole ≡ is_tree place.0
    whole_gone place c h =
        let told : Change = record { how = how.Removed; mode = place.0; whole = is_tree place.0 } in
        let same : told ≡ c = cc in
        ap (λ (d : Change). d.whole) (sym same)

    -- where it was a tree all of it is told, and else nothing was below
    whole_or : (b : Bool) (o : Option Place) (T : Tree) (c : Change) → was_tree o ≡ b → c.whole ≡ b → ((n : Name) (p : Path) → T (n ∷ p) ≡ None) → WholeOr c o T
    whole_or true o T c at told bare = inl told
    whole_or false o T c at told bare = inr (λ n p. bare n p ∙ sym (bare_was o n p at))

    below_id : (o : Option Place) (m : Mode) (id : Id) (T : Tree) (c : Change) → c.whole ≡ is_whole (was_tree o) (m, Some id)
        → ((p : Path) → T p ≡ shown G (item_by m id) p) → WholeOr c o T
    below_id o mode.File id T c told same = whole_or (was_tree o) o T c refl told (λ n p. same (n ∷ p))
    below_id o mode.Exec id T c told same = whole_or (was_tree o) o T c refl told (λ n p. same (n ∷ p))
    below_id o mode.Link id T c told same = whole_or (was_tree o) o T c refl told (λ n p. same (n ∷ p))
    below_id o mode.Dir id T c told same = inl told
    below_id o mode.Gitlink id T c told same = whole_or (was_tree o) o T c refl told (λ n p. same (n ∷ p))

    below_shown : (o : Option Place) (e : StoredEntry) (stand : Stand) (c : Change) → ById e stand ⊎ ByPlace e stand → change_of o (Some stand) ≡ Some c
        → WholeOr c o (shown G (item_of e))
    below_shown o e stand c (inl by) h =
        below_id o by.0 by.1.0 (shown G (item_of e)) c (whole_is o stand c h ∙ ap (λ (s : Stand). is_whole (was_tree o) s) by.1.1.0) by.1.1.1
    below_shown o e stand c (inr by) h =
        whole_or (was_tree o) o (shown G (item_of e)) c refl (whole_is o stand c h ∙ ap (λ (s : Stand). is_whole (was_tree o) s) by.0) (λ n p. by.1 any_id (n ∷ p))

    below_now : (o : Option Place) (e : Option StoredEntry) (stand : Option Stand) (c : Change) → IsFine e → own_directory e ≡ None → StandsAs F e stand
        → change_of o stand ≡ Some c → WholeOr c o (is e)
    below_now None None None c fine_e none_own s h = absurd (cc)
    below_now (Some place) None None c fine_e none_own s h = whole_or (is_tree place.0) (Some place) (is None) c refl (whole_gone place c h) (λ n p. refl)
    below_now o None (Some stand) c fine_e none_own s h = absurd s
    below_now o (Some e) None c fine_e none_own s h = absurd s
    below_now o (Some e) (Some stand) c fine_e none_own s h = below_shown o e stand c (stands e stand fine_e none_own s) h

    -- ---- an own directory

    own_by : (number : ℕ) (j : Kind) (o : Origin) (k : ℕ) → own_directory_by number j o ≡ Some k → (j ≡ kind.Dir) × ((o ≡ origin.Own) × (number ≡ k))
    own_by number j (origin.Object id) k h = absurd (cc)
    own_by number j origin.Empty k h = absurd (cc)
    own_by number kind.File origin.Own k h = absurd (cc)
    own_by number kind.Exec origin.Own k h = absurd (cc)
    own_by number kind.Link origin.Own k h = absurd (cc)
    own_by number kind.Dir origin.Own k h = let same : number ≡ k = cc in (refl, (refl, same))

    own_stand : (number : ℕ) (j : Kind) (o : Origin) (k : ℕ) (stand : Stand) → own_directory_by number j o ≡ Some k → StandsBy F number j o stand
        → stand ≡ (mode.Dir, None)
    own_stand number j (origin.Object id) k stand h s = absurd (cc)
    own_stand number j origin.Empty k stand h s = absurd (cc)
    own_stand number kind.File origin.Own k stand h s = absurd (cc)
    own_stand number kind.Exec origin.Own k stand h s = absurd (cc)
    own_stand number kind.Link origin.Own k stand h s = absurd (cc)
    own_stand number kind.Dir origin.Own k stand h s = s

    own_is : (e : StoredEntry) (k : ℕ) → own_directory (Some e) ≡ Some k → item_of e ≡ dir G (Own k)
    own_is e k h =
        let at = own_by e.number e.kind e.origin k h in
        let by_number : ℕ → Item Source = λ n. record { kind = kind.Dir; source = Own n } in
        item_is e kind.Dir origin.Own at.0 at.1.0 ∙ ap by_number at.1.1

    own_stands : (e : Option StoredEntry) (k : ℕ) (stand : Option Stand) → own_directory e ≡ Some k → StandsAs F e stand → stand ≡ Some (mode.Dir, None)
    own_stands None k stand h s = absurd (cc)
    own_stands (Some e) k None h s = absurd s
    own_stands (Some e) k (Some stand) h s = ap (λ (t : Stand). Some t) (own_stand e.number e.kind e.origin k stand h s)

    own_top : (e : Option StoredEntry) (k : ℕ) (new : List StoredEntry) → own_directory e ≡ Some k → HoldsEntries F k new → is e [] ≡ Some (node.Dir true)
    own_top None k new h held = absurd (cc)
    own_top (Some e) k new h held =
        ap (λ (i : Item Source). shown G i []) (own_is e k h) ∙ at_top G (Own k) (items_of new) (own_entries R F k new held)

    inside_is : (e : Option StoredEntry) (k : ℕ) (new : List StoredEntry) → own_directory e ≡ Some k → HoldsEntries F k new → (m : Name) (q : Path)
        → is e (m ∷ q) ≡ is (stored_named m new) q
    inside_is None k new h held m q = absurd (cc)
    inside_is (Some e) k new h held m q =
        ap (λ (i : Item Source). shown G i (m ∷ q)) (own_is e k h) ∙ at_name G (Own k) (items_of new) (own_entries R F k new held) m q

    -- what the commit has in a tree
    named_item : (o : Option TreeEntry) (q : Path) → shown_at G (option_map (λ (t : TreeEntry). item_by t.mode t.id) o) q ≡ was (option_map mode_and_id o) q
    named_item None q = refl
    named_item (Some t) q = refl

    inside_was : (o : Option Place) (old : List TreeEntry) → HasInside R o old → (m : Name) (q : Path) → was o (m ∷ q) ≡ was (place_named m old) q
    inside_was None old empty m q = ap (λ (es : List TreeEntry). was (place_named m es) q) (sym empty)
    inside_was (Some (mode.File, id)) old empty m q = ap (λ (es : List TreeEntry). was (place_named m es) q) (sym empty)
    inside_was (Some (mode.Exec, id)) old empty m q = ap (λ (es : List TreeEntry). was (place_named m es) q) (sym empty)
    inside_was (Some (mode.Link, id)) old empty m q = ap (λ (es : List TreeEntry). was (place_named m es) q) (sym empty)
    inside_was (Some (mode.Gitlink, id)) old empty m q = ap (λ (es : List TreeEntry). was (place_named m es) q) (sym empty)
    inside_was (Some (mode.Dir, id)) old tree m q =
        at_name G (Object id) (repository.items_of old) (tree_entries R F id old tree) m q ∙ named_item (entry_named m old) q

    own_alike : (o : Option Place) (old : List TreeEntry) → HasInside R o old → change_of o (Some (mode.Dir, None)) ≡ None → Some (node.Dir true) ≡ was o []
    own_alike None old tree h = absurd (cc)
    own_alike (Some (mode.File, id)) old tree h = absurd (cc)
    own_alike (Some (mode.Exec, id)) old tree h = absurd (cc)
    own_alike (Some (mode.Link, id)) old tree h = absurd (cc)
    own_alike (Some (mode.Gitlink, id)) old tree h = absurd (cc)
    own_alike (Some (mode.Dir, id)) old tree h = sym (at_top G (Object id) (repository.items_of old) (tree_entries R F id old tree))

    own_leads : (o : Option Place) (c : Change) (y : Node) → kind_of y ≡ kind.Dir → sort_shown y ≡ 2 → change_of o (Some (mode.Dir, None)) ≡ Some c
        → LeadsTo c (was o []) (Some y)
    own_leads None c y at_kind at_sort h = first_leads (mode.Dir, None) y c at_kind h
    own_leads (Some place) c y at_kind at_sort h =
        leads_by place (mode.Dir, None) y c at_kind at_sort
        (λ sorted differ. dir_apart place.0 place.1 y (ap up (eqb-true (sort_of place.0) 2 sorted))) (told_as place (mode.Dir, None) c h)

    -- ---- all rows: what isn't covered is alike

    abbrev Fits : List Told → Path → Row → Path → Type 0
    Fits told at row p = IsCovered told at ⊎ (is row.new p ≡ was row.old p)

    fits_left : (first more : List Told) (at : Path) (row : Row) (p : Path) → Fits first at row p → Fits (first ++ more) at row p
    fits_left first more at row p (inl c) = inl (covered_left first more at c)
    fits_left first more at row p (inr same) = inr same

    fits_right : (first more : List Told) (at : Path) (row : Row) (p : Path) → Fits more at row p → Fits (first ++ more) at row p
    fits_right first more at row p (inl c) = inl (covered_right first more at c)
    fits_right first more at row p (inr same) = inr same

    fits_or : (b : Bool) (n : Name) (r : Name × Row) (rows : Rows) (first more : List Told) (at p : Path) → is_name n r.0 ≡ b
        → (n ≡ r.0 → Fits first at r.1 p) → Fits more at (row_in rows n) p
        → Fits (first ++ more) at (unwrap_or (cond b (Some r.1) (lookup (is_name n) rows)) nothing) p
    fits_or true n r rows first more at p same here later = fits_left first more at r.1 p (here (told_name n r.0 same))
    fits_or false n r rows first more at p same here later = fits_right first more at (row_in rows n) p later

    itself : (front : Path) (n k : Name) (c : Change) → n ≡ k → IsCovered ((front ++ k ∷ [], c) ∷ []) (front ++ n ∷ [])
    itself front n k c same = ((front ++ k ∷ [], c), (one_in (front ++ k ∷ [], c), inl (ap (λ (j : Name). front ++ j ∷ []) (sym same))))

    lower : (front : Path) (n k m : Name) (q : Path) → n ≡ k → front ++ n ∷ m ∷ q ≡ (front ++ k ∷ []) ++ m ∷ q
    lower front n k m q same = ap (λ (j : Name). front ++ j ∷ m ∷ q) same ∙ sym (below_of front k m q)

    below_fits : (front : Path) (n k : Name) (row : Row) (c : Change) (m : Name) (q : Path) → n ≡ k → WholeOr c row.old (is row.new)
        → Fits ((front ++ k ∷ [], c) ∷ []) (front ++ n ∷ m ∷ q) row (m ∷ q)
    below_fits front n k row c m q same (inl whole) =
        inl ((front ++ k ∷ [], c), (one_in (front ++ k ∷ [], c), inr (whole, (m, (q, lower front n k m q same)))))
    below_fits front n k row c m q same (inr alike) = inr (alike m q)

    alone_fits : (front : Path) (n k : Name) (row : Row) (stand : Option Stand) (p : Path) → n ≡ k → IsFine row.new → own_directory row.new ≡ None
        → StandsAs F row.new stand → (o : Option Change) → change_of row.old stand ≡ o → Fits (told_of (front ++ k ∷ []) o) (front ++ n ∷ p) row p
    alone_fits front n k row stand p same fine_e none_own s None h = inr (alike_now row.old row.new stand fine_e none_own s h p)
    alone_fits front n k row stand [] same fine_e none_own s (Some c) h = inl (itself front n k c same)
    alone_fits front n k row stand (m ∷ q) same fine_e none_own s (Some c) h =
        below_fits front n k row c m q same (below_now row.old row.new stand c fine_e none_own s h)

    module _ (front : Path) (k : Name) (row : Row) (number : ℕ) (new : List StoredEntry) (old : List TreeEntry) (inside : Rows)
        (mine : own_directory row.new ≡ Some number) (held : HoldsEntries F number new) (in_commit : HasInside R row.old old) (are : AreRows old new inside) where
      -- a path inside, by the rows there
      inside_fits : (below : List Told) (n m : Name) (q : Path) → n ≡ k → Fits below ((front ++ k ∷ []) ++ m ∷ q) (row_in inside m) q
          → Fits below (front ++ n ∷ m ∷ q) row (m ∷ q)
      inside_fits below n m q same (inl c) = inl (subst (IsCovered below) (sym (lower front n k m q same)) c)
      inside_fits below n m q same (inr alike) =
          let at = subst (λ (r : Row). is r.new q ≡ was r.old q) (are.at m) alike in
          inr (inside_is row.new number new mine held m q ∙ at ∙ sym (inside_was row.old old in_commit m q))

      top_fits : (n : Name) → n ≡ k → (o : Option Change) → change_of row.old (Some (mode.Dir, None)) ≡ o → Fits (told_of (front ++ k ∷ []) o) (front ++ n ∷ []) row []
      top_fits n same None h = inr (own_top row.new number new mine held ∙ own_alike row.old old in_commit h)
      top_fits n same (Some c) h = inl (itself front n k c same)

      within_fits : (stand : Option Stand) (below : List Told) (n : Name) (p : Path) → n ≡ k → StandsAs F row.new stand
          → ((m : Name) (q : Path) → Fits below ((front ++ k ∷ []) ++ m ∷ q) (row_in inside m) q)
          → Fits (told_of (front ++ k ∷ []) (change_of row.old stand) ++ below) (front ++ n ∷ p) row p
      within_fits stand below n [] same s each =
          let at : stand ≡ Some (mode.Dir, None) = own_stands row.new number stand mine s in
          let first = told_of (front ++ k ∷ []) (change_of row.old stand) in
          let told : change_of row.old (Some (mode.Dir, None)) ≡ change_of row.old stand = ap (λ (x : Option Stand). change_of row.old x) (sym at) in
          fits_left first below (front ++ n ∷ []) row [] (top_fits n same (change_of row.old stand) told)
      within_fits stand below n (m ∷ q) same s each =
          fits_right (told_of (front ++ k ∷ []) (change_of row.old stand)) below (front ++ n ∷ m ∷ q) row (m ∷ q) (inside_fits below n m q same (each m q))

    complete : (front : Path) (rows : Rows) (more : List Told) → Differ F R front rows more → AreRising (λ r. r.0) rows → AreAllFine rows → (n : Name) (p : Path)
        → Fits more (front ++ n ∷ p) (row_in rows n) p
    complete front rows more (none at) rising fine_all n p = inr refl
    complete front rows more (alone at k row stand others heard none_own s d) rising fine_all n p =
        fits_or (is_name n k) n (k, row) others (told_of (at ++ k ∷ []) (change_of row.old stand)) heard (at ++ n ∷ p) p refl
        (λ same. alone_fits at n k row stand p same fine_all.0 none_own s (change_of row.old stand) refl)
        (complete at others heard d (behind (k, row) others rising) fine_all.1 n p)
    complete front rows more (within at k row stand number new old inside below others heard mine s held in_commit are d e) rising fine_all n p =
        let fine_inside = all_fine old new inside are (fine new (held_storable F number new held)) in
        fits_or (is_name n k) n (k, row) others (told_of (at ++ k ∷ []) (change_of row.old stand) ++ below) heard (at ++ n ∷ p) p refl
        (λ same. within_fits at k row number new old inside mine held in_commit are stand below n p same s
        (λ m q. complete (at ++ k ∷ []) inside below d are.rising fine_inside m q))
        (complete at others heard e (behind (k, row) others rising) fine_all.1 n p)

    -- ---- all rows: what is told leads from the one to the other

    abbrev Led : Path → Rows → Told → Type 0
    Led front rows t = (n : Name) × ((p : Path) × ((t.0 ≡ front ++ n ∷ p) × LeadsTo t.1 (was (row_in rows n).old p) (is (row_in rows n).new p)))

    led_first : (front : Path) (r : Name × Row) (rows : Rows) (t : Told) (p : Path) → t.0 ≡ front ++ r.0 ∷ p → LeadsTo t.1 (was r.1.old p) (is r.1.new p)
        → Led front (r ∷ rows) t
    led_first front r rows t p at leads =
        (r.0, (p, (at, subst (λ (row : Row). LeadsTo t.1 (was row.old p) (is row.new p)) (sym (at_first r rows)) leads)))

    led_by : (b : Bool) (front : Path) (r : Name × Row) (rows : Rows) (t : Told) (n : Name) (p : Path) → is_name n r.0 ≡ b → AreRising (λ r. r.0) (r ∷ rows)
        → t.0 ≡ front ++ n ∷ p → LeadsTo t.1 (was (row_in rows n).old p) (is (row_in rows n).new p) → Led front (r ∷ rows) t
    led_by true front r rows t n p same rising at leads =
        let none : row_in rows n ≡ nothing = ap (λ (m : Name). row_in rows m) (told_name n r.0 same) ∙ absent r rows rising in
        absurd (never_leads t.1 None None (subst (λ (row : Row). LeadsTo t.1 (was row.old p) (is row.new p)) none leads) refl refl)
    led_by false front r rows t n p same rising at leads =
        (n, (p, (at, subst (λ (row : Row). LeadsTo t.1 (was row.old p) (is row.new p)) (sym (at_later n r rows same)) leads)))

    led_later : (front : Path) (r : Name × Row) (rows : Rows) (t : Told) → AreRising (λ r. r.0) (r ∷ rows) → Led front rows t → Led front (r ∷ rows) t
    led_later front r rows t rising led = led_by (is_name led.0 r.0) front r rows t led.0 led.1.0 refl rising led.1.1.0 led.1.1.1

    -- the change under a name itself
    led_itself : (front : Path) (r : Name × Row) (rows : Rows) (t : Told) (o : Option Change) → Contains (told_of (front ++ r.0 ∷ []) o) t
        → ((c : Change) → o ≡ Some c → LeadsTo c (was r.1.old []) (is r.1.new [])) → Led front (r ∷ rows) t
    led_itself front r rows t None h each = absurd (nothing_in t h)
    led_itself front r rows t (Some c) h each =
        let same = only_in (front ++ r.0 ∷ [], c) t h in
        let leads = subst (λ (d : Change). LeadsTo d (was r.1.old []) (is r.1.new [])) (ap (λ (u : Told). u.1) same) (each c refl) in
        led_first front r rows t [] (sym (ap (λ (u : Told). u.0) same)) leads

    led_inside : (front : Path) (r : Name × Row) (rows : Rows) (t : Told) (number : ℕ) (new : List StoredEntry) (old : List TreeEntry) (inside : Rows)
        → own_directory r.1.new ≡ Some number → HoldsEntries F number new → HasInside R r.1.old old → AreRows old new inside
        → Led (front ++ r.0 ∷ []) inside t → Led front (r ∷ rows) t
    led_inside front r rows t number new old inside mine held in_commit are led =
        let m = led.0 in
        let q = led.1.0 in
        let there = subst (λ (row : Row). LeadsTo t.1 (was row.old q) (is row.new q)) (are.at m) led.1.1.1 in
        let by_old = subst (λ (o : Option Node). LeadsTo t.1 o (is (stored_named m new) q)) (sym (inside_was r.1.old old in_commit m q)) there in
        let by_new = subst (λ (o : Option Node). LeadsTo t.1 (was r.1.old (m ∷ q)) o) (sym (inside_is r.1.new number new mine held m q)) by_old in
        led_first front r rows t (m ∷ q) (led.1.1.0 ∙ below_of front r.0 m q) by_new

    own_led : (e : Option StoredEntry) (o : Option Place) (stand : Option Stand) (number : ℕ) (c : Change) → own_directory e ≡ Some number
        → StandsAs F e stand → change_of o stand ≡ Some c → LeadsTo c (was o []) (is e [])
    own_led None o stand number c mine s h = absurd (cc)
    own_led (Some e) o stand number c mine s h =
        let at = own_stands (Some e) number stand mine s in
        let leads = own_leads o c (node_of G (dir G (Own number))) refl refl (sym (ap (λ (x : Option Stand). change_of o x) at) ∙ h) in
        subst (λ (i : Item Source). LeadsTo c (was o []) (shown G i [])) (sym (own_is e number mine)) leads

    sound : (front : Path) (rows : Rows) (more : List Told) → Differ F R front rows more → AreRising (λ r. r.0) rows → AreAllFine rows → (t : Told) → Contains more t
        → Led front rows t
    sound front rows more (none at) rising fine_all t h = absurd (nothing_in t h)
    sound front rows more (alone at k row stand others heard none_own s d) rising fine_all t h =
        let first = told_of (at ++ k ∷ []) (change_of row.old stand) in
        one_of (Led at ((k, row) ∷ others) t)
        (λ here. led_itself at (k, row) others t (change_of row.old stand) here (λ c told. leads_now row.old row.new stand c fine_all.0 none_own s told))
        (λ later. led_later at (k, row) others t rising (sound at others heard d (behind (k, row) others rising) fine_all.1 t later))
        (Contains-append_cases first heard t h)
    sound front rows more (within at k row stand number new old inside below others heard mine s held in_commit are d e) rising fine_all t h =
        let first = told_of (at ++ k ∷ []) (change_of row.old stand) in
        let fine_inside = all_fine old new inside are (fine new (held_storable F number new held)) in
        let here : Contains (first ++ below) t → Led at ((k, row) ∷ others) t = λ among. one_of (Led at ((k, row) ∷ others) t)
        (λ top. led_itself at (k, row) others t (change_of row.old stand) top (λ c told. own_led row.new row.old stand number c mine s told))
        (λ lower_told. led_inside at (k, row) others t number new old inside mine held in_commit are
        (sound (at ++ k ∷ []) inside below d are.rising fine_inside t lower_told))
        (Contains-append_cases first below t among) in
        one_of (Led at ((k, row) ∷ others) t) here
        (λ later. led_later at (k, row) others t rising (sound at others heard e (behind (k, row) others rising) fine_all.1 t later))
        (Contains-append_cases (first ++ below) heard t h)

    -- .. also what is told before an error
    led_alone : (b : Bool) (front : Path) (r : Name × Row) (rows : Rows) (t : Told) (n : Name) (p : Path) → is_name n r.0 ≡ b → t.0 ≡ front ++ n ∷ p
        → LeadsTo t.1 (was (row_in (r ∷ []) n).old p) (is (row_in (r ∷ []) n).new p) → Led front (r ∷ rows) t
    led_alone true front r rows t n p same at leads =
        let there : row_in (r ∷ []) n ≡ r.1 = ap (λ (m : Name). row_in (r ∷ []) m) (told_name n r.0 same) ∙ at_first r [] in
        led_first front r rows t p (at ∙ ap (λ (m : Name). front ++ m ∷ p) (told_name n r.0 same))
        (subst (λ (row : Row). LeadsTo t.1 (was row.old p) (is row.new p)) there leads)
    led_alone false front r rows t n p same at leads =
        let none : row_in (r ∷ []) n ≡ nothing = at_later n r [] same in
        absurd (never_leads t.1 None None (subst (λ (row : Row). LeadsTo t.1 (was row.old p) (is row.new p)) none leads) refl refl)

    alone_rising : (r : Name × Row) (rows : Rows) → AreRising (λ r. r.0) (r ∷ rows) → AreRising (λ r. r.0) (r ∷ [])
    unfolding IsStrictlySortedBy
    alone_rising r rows rising = (tt, tt)

    sound_so_far : (front : Path) (rows : Rows) (more : List Told) → DifferSoFar F R front rows more → AreRising (λ r. r.0) rows → AreAllFine rows
        → (t : Told) → Contains more t → Led front rows t
    sound_so_far front rows more (stopped at any) rising fine_all t h = absurd (nothing_in t h)
    sound_so_far front rows more (passed at k row others first heard d e) rising fine_all t h =
        one_of (Led at ((k, row) ∷ others) t)
        (λ here.
        let led = sound at ((k, row) ∷ []) first d (alone_rising (k, row) others rising) (fine_all.0, tt) t here in
        led_alone (is_name led.0 k) at (k, row) others t led.0 led.1.0 refl led.1.1.0 led.1.1.1)
        (λ later. led_later at (k, row) others t rising (sound_so_far at others heard e (behind (k, row) others rising) fine_all.1 t later))
        (Contains-append_cases first heard t h)
    sound_so_far front rows more (begun at k row stand number others mine s) rising fine_all t h =
        led_itself at (k, row) others t (change_of row.old stand) h (λ c told. own_led row.new row.old stand number c mine s told)
    sound_so_far front rows more (entered at k row stand number new old within_rows others below mine s held in_commit are d) rising fine_all t h =
        let first = told_of (at ++ k ∷ []) (change_of row.old stand) in
        let fine_inside = all_fine old new within_rows are (fine new (held_storable F number new held)) in
        one_of (Led at ((k, row) ∷ others) t)
        (λ above. led_itself at (k, row) others t (change_of row.old stand) above (λ c told. own_led row.new row.old stand number c mine s told))
        (λ lower_told. led_inside at (k, row) others t number new old within_rows mine held in_commit are
        (sound_so_far (at ++ k ∷ []) within_rows below d are.rising fine_inside t lower_told))
        (Contains-append_cases first below t h)

    -- ---- the whole

    untouched_exact : (t : Id) (old : List Told) → root_file F ≡ None → GrowsExactly old old (Whole R t) (FilesShow R t F)
    untouched_exact t old no_root =
        let same : (p : Path) → FilesShow R t F p ≡ Whole R t p = λ p.
        ap (λ (T : Tree). T p) (commit_shows R F t no_root) ∙ whole_alike R (own_files F) t p in
        record { more = []; grew = sym (append-nil old); exact = record { each = λ u h. absurd (nothing_in u h); all = λ p. inr (same p) } }

    module _ (t : Id) (before : List TreeEntry) (after : List StoredEntry) (rows : Rows) (rooted : is_some (root_file F) ≡ true)
        (tree : R.tree t ≡ Some before) (held : HoldsEntries F 1 after) (are : AreRows before after rows) where
      shows_new : (p : Path) → FilesShow R t F p ≡ shown G (dir G (Own 1)) p
      shows_new p = ap (λ (T : Tree). T p) (own_shows R F t (root_file F) refl rooted)

      shows_old : (p : Path) → Whole R t p ≡ was (Some (mode.Dir, t)) p
      shows_old p = sym (whole_alike R (own_files F) t p)

      new_named : (n : Name) (q : Path) → FilesShow R t F (n ∷ q) ≡ is (stored_named n after) q
      new_named n q = shows_new (n ∷ q) ∙ at_name G (Own 1) (items_of after) (own_entries R F 1 after held) n q

      old_named : (n : Name) (q : Path) → Whole R t (n ∷ q) ≡ was (place_named n before) q
      old_named n q = shows_old (n ∷ q) ∙ inside_was (Some (mode.Dir, t)) before tree n q

      fine_all : AreAllFine rows
      fine_all = all_fine before after rows are (fine after (held_storable F 1 after held))

      top_leads : (u : Told) → Led [] rows u → LeadsTo u.1 (Whole R t u.0) (FilesShow R t F u.0)
      top_leads u led =
          let n = led.0 in
          let q = led.1.0 in
          let there = subst (λ (row : Row). LeadsTo u.1 (was row.old q) (is row.new q)) (are.at n) led.1.1.1 in
          let by_old = subst (λ (o : Option Node). LeadsTo u.1 o (is (stored_named n after) q)) (sym (old_named n q)) there in
          let by_new = subst (λ (o : Option Node). LeadsTo u.1 (Whole R t (n ∷ q)) o) (sym (new_named n q)) by_old in
          subst (λ (p : Path). LeadsTo u.1 (Whole R t p) (FilesShow R t F p)) (sym led.1.1.0) by_new

      each_leads : (more : List Told) → Differ F R [] rows more → (u : Told) → Contains more u → LeadsTo u.1 (Whole R t u.0) (FilesShow R t F u.0)
      each_leads more d u h = top_leads u (sound [] rows more d are.rising fine_all u h)

      each_so_far : (more : List Told) → DifferSoFar F R [] rows more → (u : Told) → Contains more u → LeadsTo u.1 (Whole R t u.0) (FilesShow R t F u.0)
      each_so_far more d u h = top_leads u (sound_so_far [] rows more d are.rising fine_all u h)

      fits_named : (more : List Told) (n : Name) (q : Path) → Fits more (n ∷ q) (row_in rows n) q
          → IsCovered more (n ∷ q) ⊎ (FilesShow R t F (n ∷ q) ≡ Whole R t (n ∷ q))
      fits_named more n q (inl c) = inl c
      fits_named more n q (inr alike) =
          let at = subst (λ (r : Row). is r.new q ≡ was r.old q) (are.at n) alike in
          inr (new_named n q ∙ at ∙ sym (old_named n q))

      all_fit : (more : List Told) → Differ F R [] rows more → (p : Path) → IsCovered more p ⊎ (FilesShow R t F p ≡ Whole R t p)
      all_fit more d [] =
          let top_new = shows_new [] ∙ at_top G (Own 1) (items_of after) (own_entries R F 1 after held) in
          let top_old = shows_old [] ∙ at_top G (Object t) (repository.items_of before) (tree_entries R F t before tree) in
          inr (top_new ∙ sym top_old)
      all_fit more d (n ∷ q) = fits_named more n q (complete [] rows more d are.rising fine_all n q)

    pub exact : (t : Id) (old new : List Told) → TellsAll F R t old new → GrowsExactly old new (Whole R t) (FilesShow R t F)
    exact t old new (untouched told no_root) = untouched_exact t told no_root
    exact t old new (own before was_told told rooted tree d) = record {
      more = d.tells.more;
      grew = d.tells.grew;
      exact = record {
        each = each_leads t before d.after d.rows rooted tree d.held d.are d.tells.more d.tells.differ;
        all = all_fit t before d.after d.rows rooted tree d.held d.are d.tells.more d.tells.differ;
      };
    }

    -- .. as far as it was told
    some_truly : (t : Id) (before : List TreeEntry) (old new : List Told) → IsSome (root_file F) → R.tree t ≡ Some before
        → TellsSome F R [] 1 before old new → GrowsTruly old new (Whole R t) (FilesShow R t F)
    some_truly t before old new rooted tree d = record {
      more = d.tells.more;
      grew = d.tells.grew;
      each = each_so_far t before d.after d.rows rooted tree d.held d.are d.tells.more d.tells.differ;
    }

    pub truly : (t : Id) (old new : List Told) → TellsAllSoFar F R t old new → GrowsTruly old new (Whole R t) (FilesShow R t F)
    truly t old new (inl same) = record { more = []; grew = same ∙ sym (append-nil old); each = λ u h. absurd (nothing_in u h) }
    truly t old new (inr s) = some_truly t s.1.0 old new s.0 s.1.1.0 s.1.1.1
