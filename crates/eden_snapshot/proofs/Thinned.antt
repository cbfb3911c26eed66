-- What is written of a directory shows what the directory shows, without empty directories.
use Rattle.std.proofs.Common.{◌≡◌, ◌≢◌, Bool, true, false, cond, ℕ, List, [], ◌∷◌, ◌++◌, Option, Some, None, refl, sym, ap, ◌∙◌, subst}
use Rattle.std.specs.Option.{option_map, option_and_then, is_some}
use Rattle.std.specs.Str.{bytes_eq}
use Rattle.std.proofs.lemmas.List.Sorted.{IsPermutation-sym}
use Rattle.std.proofs.lemmas.Slice.Eq.{bytes_eq-Decides}
use Rattle.eden_model.specs.declared.id.Id.{Id}
use Rattle.eden_model.specs.declared.kind.Kind.{Kind}
use Rattle.eden_model.specs.declared.kind.Kind.TheVariants as kind
use Rattle.eden_model.specs.declared.kind.Mode.TheVariants as mode
use Rattle.eden_model.specs.declared.kind.Origin.{Origin}
use Rattle.eden_model.specs.declared.kind.Origin.TheVariants as origin
use Rattle.eden_model.specs.declared.node.Node.{Node}
use Rattle.eden_model.specs.declared.node.Node.TheVariants as node
use Rattle.eden_model.specs.declared.tree_entry.TreeEntry.{TreeEntry}
use Rattle.eden_model.specs.Trees.{Name, Path, Tree}
use Rattle.eden_model.specs.Shown.{Item, Items, Ground, node_of, shown, shown_at}
use Rattle.eden_model.specs.Repository.{Repository, Source, Object, Own, Empty, source_of, item_by, entry_named, entries_with, content_with, ground_with, root_of, Whole}
use Rattle.eden_model.specs.Repository as repository
use Rattle.eden_object.specs.Encoding.{IsEncoded, tree_text}
use Rattle.eden_object.proofs.CallerLemmas.{same_differ}
use Rattle.eden_overlay_format.specs.declared.stored_entry.StoredEntry.{StoredEntry}
use Rattle.eden_overlay_format.specs.Directory.{HasOrigin}
use Rattle.eden_overlay.specs.Files.{Stored}
use Rattle.eden_overlay.specs.Held.{HoldsContent, HoldsEntries, item_of, items_of, own_files, root_file}
use Rattle.eden_overlay.proofs.CallerLemmas.{held_storable}
use Rattle.eden_snapshot.specs.Sinks.{Handed, Told, Filled, HasObject, HasAll}
use Rattle.eden_snapshot.specs.Pruning.{IsPruned}
use Rattle.eden_snapshot.specs.Written.{mode_of, entry_with, submodule_with, IsIdOf, Known, path_of, Written, nothing, object}
use Rattle.eden_snapshot.specs.Written.{content, directory, bare, submodule, unknown, WritesTop, untouched, own}
use Rattle.eden_snapshot.specs.Showing.{root_item, FilesShow}
use Rattle.eden_snapshot.proofs.Found.{stored_named, AreFine, fine, permuted}
use Rattle.eden_snapshot.proofs.Wholes.{whole_alike, none_below}

-- the second tree is the first but for listed directories that it leaves out
pub record Thins (whole thin : Tree) : Type 0 where
  pub within : (p : Path) (x : Node) → thin p ≡ Some x → whole p ≡ Some x
  pub rest : (p : Path) (x : Node) → whole p ≡ Some x → thin p ≡ None → x ≡ node.Dir true

-- nothing
abbrev pub Nowhere : Tree
Nowhere = λ p. None

same_thins : (T U : Tree) → ((p : Path) → U p ≡ T p) → Thins T U
same_thins T U same = record {
  within = λ p x h. sym (same p) ∙ h;
  rest = λ p x h none. (let wrong : None ≡ Some x = sym none ∙ same p ∙ h in absurd (cc));
}

-- an entry in the place of another list's
moved_thins : (T U V : Tree) → ((p : Path) → V p ≡ U p) → Thins T U → Thins T V
moved_thins T U V same t = record {
  within = λ p x h. t.within p x (sym (same p) ∙ h);
  rest = λ p x h none. t.rest p x h (sym (same p) ∙ none);
}

-- ---- entry by entry

module _ (G : Ground Source) where
  -- the entries of an own directory, and of a tree, by name
  abbrev Stands : List StoredEntry → List TreeEntry → Name → Type 0
  Stands es ts n = Thins (shown_at G (items_of es n)) (shown_at G (repository.items_of ts n))

  -- an entry that is written, before the others
  kept : (b : Bool) (e : StoredEntry) (t : TreeEntry) (o : Option StoredEntry) (p : Option TreeEntry)
      → Thins (shown G (item_of e)) (shown G (item_by t.mode t.id))
      → Thins (shown_at G (option_map item_of o)) (shown_at G (option_map (λ (u : TreeEntry). item_by u.mode u.id) p))
      → Thins (shown_at G (option_map item_of (cond b (Some e) o))) (shown_at G (option_map (λ (u : TreeEntry). item_by u.mode u.id) (cond b (Some t) p)))
  kept true e t o p this others = this
  kept false e t o p this others = others

  -- where nothing stands nothing is written
  none_written : (o : Option (Item Source)) → Thins Nowhere (shown_at G o) → o ≡ None
  none_written None t = refl
  none_written (Some j) t = let wrong : None ≡ Some (node_of G j) = t.within [] (node_of G j) refl in absurd (cc)

  -- an entry that is left out, before the others
  left : (b : Bool) (n : Name) (e : StoredEntry) (es : List StoredEntry) (ts : List TreeEntry) → bytes_eq n e.name ≡ b
      → Thins (shown G (item_of e)) Nowhere → stored_named e.name es ≡ None → Stands es ts n
      → Thins (shown_at G (option_map item_of (cond b (Some e) (stored_named n es)))) (shown_at G (repository.items_of ts n))
  left false n e es ts is this free others = others
  left true n e es ts is this free others =
      let none : stored_named n es ≡ None = ap (λ (m : Name). stored_named m es) ((bytes_eq-Decides n e.name).0 is) ∙ free in
      let nowhere = subst (λ (o : Option StoredEntry). Thins (shown_at G (option_map item_of o)) (shown_at G (repository.items_of ts n))) none others in
      let unwritten = none_written (repository.items_of ts n) nowhere in
      moved_thins (shown G (item_of e)) Nowhere (shown_at G (repository.items_of ts n)) (λ p. ap (λ (o : Option (Item Source)). shown_at G o p) unwritten) this

  -- ---- what an entry shows

  -- a file or a link, by its content
  pub leaf : (k : Kind) (s t : Source) → k ≢ kind.Dir → G.content t ≡ G.content s → (p : Path)
      → shown G (record { kind = k; source = t }) p ≡ shown G (record { kind = k; source = s }) p
  leaf kind.File s t plain same [] = ap (λ (c : Option (List ℕ)). Some (node.File false c)) same
  leaf kind.Exec s t plain same [] = ap (λ (c : Option (List ℕ)). Some (node.File true c)) same
  leaf kind.Link s t plain same [] = ap (λ (c : Option (List ℕ)). Some (node.Link c)) same
  leaf kind.Dir s t plain same [] = absurd (plain refl)
  leaf kind.File s t plain same (n ∷ p) = refl
  leaf kind.Exec s t plain same (n ∷ p) = refl
  leaf kind.Link s t plain same (n ∷ p) = refl
  leaf kind.Dir s t plain same (n ∷ p) = absurd (plain refl)

  -- a directory, by its entries
  abbrev pub dir : Source → Item Source
  dir s = record { kind = kind.Dir; source = s }

  pub at_top : (s : Source) (es : Items Source) → G.entries s ≡ Some es → shown G (dir s) [] ≡ Some (node.Dir true)
  at_top s es had = ap (λ (o : Option (Items Source)). Some (node.Dir (is_some o))) had

  pub at_name : (s : Source) (es : Items Source) → G.entries s ≡ Some es → (n : Name) (p : Path) → shown G (dir s) (n ∷ p) ≡ shown_at G (es n) p
  at_name s es had n p = ap (λ (o : Option (Items Source)). option_and_then (λ j. shown G j p) (option_and_then (λ (f : Items Source). f n) o)) had

  module _ (s t : Source) (es fs : Items Source) (had : G.entries s ≡ Some es) (has : G.entries t ≡ Some fs)
      (each : (n : Name) → Thins (shown_at G (es n)) (shown_at G (fs n))) where
    dir_within : (p : Path) (x : Node) → shown G (dir t) p ≡ Some x → shown G (dir s) p ≡ Some x
    dir_within [] x h = at_top s es had ∙ sym (at_top t fs has) ∙ h
    dir_within (n ∷ p) x h = at_name s es had n p ∙ (each n).within p x (sym (at_name t fs has n p) ∙ h)

    dir_rest : (p : Path) (x : Node) → shown G (dir s) p ≡ Some x → shown G (dir t) p ≡ None → x ≡ node.Dir true
    dir_rest [] x h none = (let wrong : None ≡ Some (node.Dir true) = sym none ∙ at_top t fs has in absurd (cc))
    dir_rest (n ∷ p) x h none = (each n).rest p x (sym (at_name s es had n p) ∙ h) (sym (at_name t fs has n p) ∙ none)

    dir_thins : Thins (shown G (dir s)) (shown G (dir t))
    dir_thins = record { within = dir_within; rest = dir_rest }

  -- .. one with empty directories alone
  module _ (s : Source) (es : Items Source) (had : G.entries s ≡ Some es) (each : (n : Name) → Thins (shown_at G (es n)) Nowhere) where
    bare_rest : (p : Path) (x : Node) → shown G (dir s) p ≡ Some x → x ≡ node.Dir true
    bare_rest [] x h = let is : Some (node.Dir true) ≡ Some x = sym (at_top s es had) ∙ h in cc
    bare_rest (n ∷ p) x h = (each n).rest p x (sym (at_name s es had n p) ∙ h) refl

    bare_thins : Thins (shown G (dir s)) Nowhere
    bare_thins = record { within = λ p x h. absurd (cc); rest = λ p x h none. bare_rest p x h }

-- ---- all that is written

-- what is an object shows the same under its id
pub by_kind : (k : Kind) (id : Id) → item_by (mode_of k) id ≡ record { kind = k; source = Object id }
by_kind kind.File id = refl
by_kind kind.Exec id = refl
by_kind kind.Link id = refl
by_kind kind.Dir id = refl

split_all : (R : Repository) (first others : Handed) → HasAll R (first ++ others) → HasAll R first × HasAll R others
split_all R [] others has = (tt, has)
split_all R (x ∷ first) others has = let more = split_all R first others has.1 in ((has.0, more.0), more.1)

-- the repository's tree of that id
has_tree : (R : Repository) (ts : List TreeEntry) (framed : List ℕ) (id : Id) (e : IsEncoded ts framed) → IsIdOf id framed → HasObject R framed
    → R.tree id ≡ Some e.written
has_tree R ts framed id e is has = (has id).tree (sym is) (tree_text e.written) e.written e.is e.grammar

module _ (R : Repository) (F : Stored) where
  abbrev pub G : Ground Source
  G = ground_with R (own_files F)

  pub item_kind : (e : StoredEntry) (o : Origin) → e.origin ≡ o → item_of e ≡ record { kind = e.kind; source = source_of e.number o }
  item_kind e o is = let at : Origin → Item Source = λ p. record { kind = e.kind; source = source_of e.number p } in ap at is

  object_thins : (e : StoredEntry) (id : Id) → e.origin ≡ origin.Object id → Thins (shown G (item_of e)) (shown G (item_by (mode_of e.kind) id))
  object_thins e id is = same_thins (shown G (item_of e)) (shown G (item_by (mode_of e.kind) id))
      (λ p. ap (λ (i : Item Source). shown G i p) (by_kind e.kind id ∙ sym (item_kind e (origin.Object id) is)))

  content_thins : (e : StoredEntry) (bytes : List ℕ) (id : Id) → e.origin ≡ origin.Own → e.kind ≢ kind.Dir → HoldsContent F e.number bytes
      → R.blob id ≡ Some bytes → Thins (shown G (item_of e)) (shown G (item_by (mode_of e.kind) id))
  content_thins e bytes id is plain held has = same_thins (shown G (item_of e)) (shown G (item_by (mode_of e.kind) id))
      (λ p. ap (λ (i : Item Source). shown G i p) (by_kind e.kind id)
      ∙ leaf G e.kind (Own e.number) (Object id) plain (has ∙ sym held) p
      ∙ ap (λ (i : Item Source). shown G i p) (sym (item_kind e origin.Own is)))

  pub own_entries : (k : ℕ) (inside : List StoredEntry) → HoldsEntries F k inside → entries_with R (own_files F) (Own k) ≡ Some (items_of inside)
  own_entries k inside held = ap (option_map items_of) held

  pub tree_entries : (id : Id) (ts : List TreeEntry) → R.tree id ≡ Some ts → entries_with R (own_files F) (Object id) ≡ Some (repository.items_of ts)
  tree_entries id ts has = ap (option_map repository.items_of) has

  -- an own directory, by the tree of what is written of its entries
  tree_thins : (k : ℕ) (inside : List StoredEntry) (ts : List TreeEntry) (framed : List ℕ) (id : Id) → HoldsEntries F k inside → IsEncoded ts framed
      → IsIdOf id framed → HasObject R framed → ((n : Name) → Stands G inside ts n)
      → Thins (shown G (dir G (Own k))) (shown G (dir G (Object id)))
  tree_thins k inside ts framed id held e is has each =
      let back = IsPermutation-sym ts e.written e.same in
      let differ = same_differ e.written ts back e.grammar.differ in
      let moved = λ (n : Name) (p : Path).
      ap (λ (o : Option TreeEntry). shown_at G (option_map (λ (u : TreeEntry). item_by u.mode u.id) o) p)
      (permuted n ts e.written e.same back differ e.grammar.differ) in
      dir_thins G (Own k) (Object id) (items_of inside) (repository.items_of e.written) (own_entries k inside held)
      (tree_entries id e.written (has_tree R ts framed id e is has))
      (λ n. moved_thins (shown_at G (items_of inside n)) (shown_at G (repository.items_of ts n)) (shown_at G (repository.items_of e.written n)) (moved n) (each n))

  -- one that has empty directories alone
  void_thins : (k : ℕ) (inside : List StoredEntry) → HoldsEntries F k inside → ((n : Name) → Stands G inside [] n) → Thins (shown G (dir G (Own k))) Nowhere
  void_thins k inside held each = bare_thins G (Own k) (items_of inside) (own_entries k inside held) each

  -- one without contents
  pub is_void : (e : StoredEntry) → e.origin ≡ origin.Empty → HasOrigin e.kind e.origin → item_of e ≡ dir G Empty
  is_void e is has =
      let at_kind : e.kind ≡ kind.Dir = subst (HasOrigin e.kind) is has in
      let at : Kind → Item Source = λ k. record { kind = k; source = Empty } in
      item_kind e origin.Empty is ∙ ap at at_kind

  no_contents : (e : StoredEntry) → e.origin ≡ origin.Empty → HasOrigin e.kind e.origin → Thins (shown G (item_of e)) Nowhere
  no_contents e is has =
      subst (λ (i : Item Source). Thins (shown G i) Nowhere) (sym (is_void e is has))
      (bare_thins G Empty (λ n. None) refl (λ n. same_thins Nowhere Nowhere (λ p. refl)))

  as_submodule : (e : StoredEntry) (id : Id) → e.origin ≡ origin.Empty → HasOrigin e.kind e.origin
      → Thins (shown G (item_of e)) (shown G (item_by mode.Gitlink id))
  as_submodule e id is has =
      same_thins (shown G (item_of e)) (shown G (item_by mode.Gitlink id)) (λ p. ap (λ (i : Item Source). shown G i p) (sym (is_void e is has)))

  pub is_dir : (e : StoredEntry) → e.origin ≡ origin.Own → e.kind ≡ kind.Dir → item_of e ≡ dir G (Own e.number)
  is_dir e is at_kind = let at : Kind → Item Source = λ k. record { kind = k; source = Own e.number } in item_kind e origin.Own is ∙ ap at at_kind

  as_dir : (e : StoredEntry) (id : Id) → e.kind ≡ kind.Dir → item_by (mode_of e.kind) id ≡ dir G (Object id)
  as_dir e id at_kind = ap (λ (k : Kind). item_by (mode_of k) id) at_kind

  -- what is written of entries shows what they show
  module _ (K : Known) where
    pub thinned : (front : Path) (es : List StoredEntry) (ts : List TreeEntry) (handed : Handed) (told : Told) → Written F K front es ts handed told
        → HasAll R handed → AreFine es → (n : Name) → Stands G es ts n
    thinned front es ts handed told (nothing at) has fine_es n = same_thins Nowhere Nowhere (λ p. refl)
    thinned front es ts handed told (object at e id more us others heard is w) has fine_es n =
        kept G (bytes_eq n e.name) e (entry_with e id) (stored_named n more) (entry_named n us) (object_thins e id is)
        (thinned front more us others heard w has fine_es.2 n)
    thinned front es ts handed told (content at e bytes id more us others heard is plain held digest w) has fine_es n =
        let blob = (has.0 id).blob (sym digest) bytes refl in
        kept G (bytes_eq n e.name) e (entry_with e id) (stored_named n more) (entry_named n us) (content_thins e bytes id is plain held blob)
        (thinned front more us others heard w has.1 fine_es.2 n)
    thinned front es ts handed told (directory at e inside first rest below found framed id more us others heard is at_kind held v encoded digest w) has fine_es n =
        let halves = split_all R below (framed ∷ others) has in
        let each = thinned (path_of front e) inside (first ∷ rest) below found v halves.0 (fine inside (held_storable F e.number inside held)) in
        let this = tree_thins e.number inside (first ∷ rest) framed id held encoded digest halves.1.0 each in
        let from = subst (λ (i : Item Source). Thins (shown G i) (shown G (dir G (Object id)))) (sym (is_dir e is at_kind)) this in
        let both = subst (λ (i : Item Source). Thins (shown G (item_of e)) (shown G i)) (sym (as_dir e id at_kind)) from in
        kept G (bytes_eq n e.name) e (entry_with e id) (stored_named n more) (entry_named n us) both (thinned front more us others heard w halves.1.1 fine_es.2 n)
    thinned front es ts handed told (bare at e inside more us below others found heard is at_kind held v w) has fine_es n =
        let halves = split_all R below others has in
        let each = thinned (path_of front e) inside [] below found v halves.0 (fine inside (held_storable F e.number inside held)) in
        let this = subst (λ (i : Item Source). Thins (shown G i) Nowhere) (sym (is_dir e is at_kind)) (void_thins e.number inside held each) in
        left G (bytes_eq n e.name) n e more us refl this fine_es.0 (thinned front more us others heard w halves.1 fine_es.2 n)
    thinned front es ts handed told (submodule at e id more us others heard is known w) has fine_es n =
        kept G (bytes_eq n e.name) e (submodule_with e id) (stored_named n more) (entry_named n us) (as_submodule e id is fine_es.1)
        (thinned front more us others heard w has fine_es.2 n)
    thinned front es ts handed told (unknown at e more us others heard is none w) has fine_es n =
        left G (bytes_eq n e.name) n e more us refl (no_contents e is fine_es.1) fine_es.0 (thinned front more us others heard w has fine_es.2 n)

  -- ---- the whole

  -- where the first is left out the second is, and all below it
  prunes : (i j : Item Source) (T : Tree) → shown G j [] ≡ shown G i [] → ((p : Path) → shown G j p ≡ T p) → Thins (shown G i) (shown G j)
      → IsPruned (shown G i) T
  prunes i j T top same t = record {
    top = sym (same []) ∙ top;
    within = λ p x h. t.within p x (same p ∙ h);
    rest = λ p none below x h. t.rest (p ++ below) x h (none_below G j p below (same p ∙ none));
  }

  -- what the files show above a commit's tree, and where the root is the mount's own
  pub commit_shows : (root : Id) → root_file F ≡ None → FilesShow R root F ≡ shown G (root_of root)
  commit_shows root none = ap (λ (o : Option (List ℕ)). shown G (root_item root o)) none

  pub own_shows : (root : Id) (o : Option (List ℕ)) → root_file F ≡ o → is_some o ≡ true → FilesShow R root F ≡ shown G (dir G (Own 1))
  own_shows root None is some = absurd (cc)
  own_shows root (Some bytes) is some = ap (λ (o : Option (List ℕ)). shown G (root_item root o)) is

  pub top_pruned : (K : Known) (root id : Id) (old new : Filled) → WritesTop F K root id old new → HasAll R new.kept → IsPruned (FilesShow R root F) (Whole R id)
  top_pruned K root id old new (untouched kept none) has =
      let this = prunes (root_of root) (root_of root) (Whole R root) refl (whole_alike R (own_files F) root) (same_thins (shown G (root_of root)) (shown G (root_of root)) (λ p. refl)) in
      subst (λ (T : Tree). IsPruned T (Whole R root)) (sym (commit_shows root none)) this
  top_pruned K root id old new (own ts framed top was below rooted w encoded digest) has =
      let halves = split_all R below.kept (framed ∷ []) has in
      let grew = ap (λ (f : Filled). f.kept) w.writes.grew in
      let mine = split_all R was.kept w.writes.handed (subst (HasAll R) grew halves.0) in
      let each = thinned K [] w.inside ts w.writes.handed w.writes.told w.writes.written mine.1 (fine w.inside (held_storable F 1 w.inside w.held)) in
      let this = tree_thins 1 w.inside ts framed top w.held encoded digest halves.1.0 each in
      let start = at_top G (Own 1) (items_of w.inside) (own_entries 1 w.inside w.held) in
      let end = at_top G (Object top) (repository.items_of encoded.written) (tree_entries top encoded.written (has_tree R ts framed top encoded digest halves.1.0)) in
      let pruned = prunes (dir G (Own 1)) (root_of top) (Whole R top) (end ∙ sym start) (whole_alike R (own_files F) top) this in
      subst (λ (T : Tree). IsPruned T (Whole R top)) (sym (own_shows root (root_file F) refl rooted)) pruned
