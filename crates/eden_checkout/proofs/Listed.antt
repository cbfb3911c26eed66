-- What files show, as a table shows it whose root isn't loaded.
use Rattle.std.proofs.Common.{◌≡◌, ◌≢◌, ℕ, zero, Bool, true, false, cond, List, [], ◌∷◌, Contains, Option, Some, None, sym, refl, ◌∙◌, ap, subst, arith}
use Rattle.std.proofs.lemmas.Option.{same_Some, none-some}
use Rattle.std.proofs.Math.Path.{fun_ext}
use Rattle.std.specs.Option.{option_map, option_and_then}
use Rattle.std.specs.Str.{bytes_eq}
use Rattle.eden_model.specs.declared.id.Id.{Id}
use Rattle.eden_model.specs.declared.kind.Kind.{Kind}
use Rattle.eden_model.specs.declared.kind.Kind.TheVariants as kind
use Rattle.eden_model.specs.declared.kind.Origin.{Origin}
use Rattle.eden_model.specs.declared.kind.Origin.TheVariants as origin
use Rattle.eden_model.specs.declared.kind.Mode.{Mode}
use Rattle.eden_model.specs.declared.kind.Mode.TheVariants as mode
use Rattle.eden_model.specs.declared.tree_entry.TreeEntry.{TreeEntry}
use Rattle.eden_model.specs.Named.{named}
use Rattle.eden_model.specs.Numbers.{Numbering, Numbers}
use Rattle.eden_model.specs.Backing.{AreShown, Backs}
use Rattle.eden_model.specs.Repository.{Repository, Source, Object, Own, Empty, source_of, item_by, entry_named, entries_with, ground_with}
use Rattle.eden_model.specs.Repository.{items_of as tree_items}
use Rattle.eden_model.specs.Shown.{Item, Items, Ground, shown, entry_in, if_dir, item_at}
use Rattle.eden_model.specs.Trees.{Name, Path, Tree}
use Rattle.eden_model.proofs.CallerLemmas.{sees_its_own, follows_sources}
use Rattle.eden_overlay_format.specs.declared.stored_entry.StoredEntry.{StoredEntry}
use Rattle.eden_overlay_format.specs.Values.{content_in, entries_in}
use Rattle.eden_overlay.specs.Counting.{root_from, listing_at}
use Rattle.eden_overlay.specs.Files.{Stored}
use Rattle.eden_overlay.specs.Held.{without, root_file, saved_at, entries_at, item_of, items_of, own_files}
use Rattle.eden_overlay.specs.Soundness.{AreSound}
use Rattle.eden_overlay.proofs.CallerLemmas.{put_apart, numbers_from_two, contains_rest}
use Rattle.eden_tree.specs.Directory.{Row}
use Rattle.eden_coupling.specs.NumberKept.{KeepsNumbers}
use Rattle.eden_coupling.specs.NumberNodes.{ListsTree, ListTrees}
use Rattle.eden_coupling.specs.Numberings.{in_files, entries_by, entry_at, row_of, row_named, numbers}
use Rattle.eden_coupling.specs.Shown.{TableSource, Away, item_away, table_ground, shown_in}
use Rattle.eden_coupling.proofs.CallerLemmas.{map_some, and_then_some}
use Rattle.eden_inode.specs.Tables.{fresh_root}
use Rattle.eden_checkout.specs.Opening.{root_entry, listed_at, files_show, files_number, IsListed, FilesKeep}

-- the root of a table over those files, as it isn't loaded
abbrev pub root_row : Id → Stored → Row
root_row root F = fresh_root (root_from root (root_file F))

-- what files keep of numbers, by such a table
abbrev pub RowKeeps : Repository → Id → Stored → ℕ → Type 0
RowKeeps R root F next = KeepsNumbers R F (root_row root F) next

-- ---- paths

by_listing : (F : Stored) (k : ℕ) (o : Origin) → entries_by (in_files F) k o ≡ listing_at F k o
by_listing F k (origin.Object tree) = refl
by_listing F k origin.Own = refl
by_listing F k origin.Empty = refl

-- by entries or by the numbers alone
module _ {X : Type 0} (F : Stored) (n : Name) (p : Path) (at : Path → Row → Option X) (of : StoredEntry → X)
    (below : (c : StoredEntry) → at p (row_of c) ≡ option_map of (listed_at F c p)) where
  by_name : (o : Option StoredEntry) → option_and_then (at p) (option_map row_of o) ≡ option_map of (option_and_then (λ c. listed_at F c p) o)
  by_name None = refl
  by_name (Some c) = below c

  by_entries : (o : Option (List StoredEntry)) → option_and_then (at p) (option_and_then (row_named n) o)
      ≡ option_map of (option_and_then (λ es. option_and_then (λ c. listed_at F c p) (named (λ (c : StoredEntry). c.name) n es)) o)
  by_entries None = refl
  by_entries (Some es) = by_name (named (λ (c : StoredEntry). c.name) n es)

  stored_so : (e : StoredEntry) → option_and_then (at p) (option_and_then (row_named n) (if_dir e.kind (entries_by (in_files F) e.number e.origin)))
      ≡ option_map of (listed_at F e (n ∷ p))
  stored_so e =
      ap (λ o. option_and_then (at p) (option_and_then (row_named n) (if_dir e.kind o))) (by_listing F e.number e.origin)
      ∙ by_entries (if_dir e.kind (listing_at F e.number e.origin))

rows_at : (F : Stored) (p : Path) (e : StoredEntry) → entry_at (in_files F) (row_of e) p ≡ option_map row_of (listed_at F e p)
rows_at F [] e = refl
rows_at F (n ∷ p) e = stored_so F n p (λ q z. entry_at (in_files F) z q) row_of (λ c. rows_at F p c) e

numbers_at : (F : Stored) (p : Path) (e : StoredEntry) → numbers (in_files F) (row_of e) p ≡ option_map (λ (c : StoredEntry). c.number) (listed_at F e p)
numbers_at F [] e = refl
numbers_at F (n ∷ p) e = stored_so F n p (λ q z. numbers (in_files F) z q) (λ c. c.number) (λ c. numbers_at F p c) e

pub number_is : (root : Id) (F : Stored) (p : Path) → files_number root F p ≡ numbers (in_files F) (root_row root F) p
number_is root F p = sym (numbers_at F p (root_entry root F))

pub numbers_are : (root : Id) (F : Stored) → files_number root F ≡ numbers (in_files F) (root_row root F)
numbers_are root F = fun_ext (number_is root F)

-- ---- what is listed

-- what files list of a directory at a path is what it has
abbrev pub ListWhatIs : Repository → Id → Stored → Type 0
ListWhatIs R root F = (e : StoredEntry) (es : List StoredEntry) → IsListed root F e → listing_at F e.number e.origin ≡ Some es
    → entries_with R (own_files F) (source_of e.number e.origin) ≡ Some (items_of es)

as_items : (es : List StoredEntry) (n : Name) → option_map item_away (row_named n es) ≡ items_of es n
as_items es n = by_found (named (λ (e : StoredEntry). e.name) n es) where
  by_found : (o : Option StoredEntry) → option_map item_away (option_map row_of o) ≡ option_map item_of o
  by_found None = refl
  by_found (Some e) = refl

module _ (R : Repository) (root : Id) (F : Stored) where
  listed_trees : ListWhatIs R root F → ListTrees R (in_files F) (root_row root F)
  listed_trees are p z id es there away from saved =
      let found = map_some row_of (listed_at F (root_entry root F) p) z (sym (sym (rows_at F p (root_entry root F)) ∙ there)) in
      let e : StoredEntry = found.0 in
      let object : e.origin ≡ origin.Object id = ap (λ (y : Row). y.origin) found.1.1 ∙ from in
      let lists : listing_at F e.number e.origin ≡ Some es =
      ap (listing_at F e.number) object ∙ ap (λ (y : Row). saved_at F y.number id) found.1.1 ∙ saved in
      let has : option_map tree_items (R.tree id) ≡ Some (items_of es) =
      sym (ap (λ (o : Origin). entries_with R (own_files F) (source_of e.number o)) object) ∙ are e es (p, found.1.0) lists in
      let ts = map_some tree_items (R.tree id) (items_of es) (sym has) in
      (ts.0, ts.1.0, λ n. as_items es n ∙ sym (ap (λ (f : Items Source). f n) ts.1.1))

  trees_listed : ListTrees R (in_files F) (root_row root F) → ListWhatIs R root F
  trees_listed trees e es at lists = by_origin e.origin refl where
    by_origin : (o : Origin) → e.origin ≡ o → entries_with R (own_files F) (source_of e.number e.origin) ≡ Some (items_of es)
    by_origin (origin.Object id) is =
        let has : ListsTree R id es =
        trees at.0 (row_of e) id es (rows_at F at.0 (root_entry root F) ∙ ap (option_map row_of) at.1) refl is (sym (ap (listing_at F e.number) is) ∙ lists) in
        ap (λ (o : Origin). entries_with R (own_files F) (source_of e.number o)) is
        ∙ ap (option_map tree_items) has.1 ∙ ap Some (fun_ext (λ n. sym (has.2 n) ∙ as_items es n))
    by_origin origin.Own is =
        ap (λ (o : Origin). entries_with R (own_files F) (source_of e.number o)) is
        ∙ ap (option_map items_of) (sym (ap (listing_at F e.number) is) ∙ lists)
    by_origin origin.Empty is = absurd (none-some es (sym (ap (listing_at F e.number) is) ∙ lists))

  module _ (tree : Tree) (N : Numbers) (next : ℕ) where
    -- what files keep is what a table over them does
    pub row_keeps : FilesKeep R tree N root F next → RowKeeps R root F next
    row_keeps keep = record {
      shown = subst (λ (S : Numbering). AreShown S next) (numbers_are root F) keep.backed.shown;
      blank = keep.blank;
      trees = listed_trees keep.listed;
    }

    pub keeps_row : AreSound F → files_show R root F ≡ tree → Backs N (files_number root F) next → RowKeeps R root F next → FilesKeep R tree N root F next
    keeps_row sound shown backs keeps = record {
      sound = sound;
      shown = shown;
      backed = backs;
      blank = keeps.blank;
      listed = trees_listed keeps.trees;
    }

-- ---- the tree, which file 0 is no part of

-- nowhere in file 0
abbrev IsApart : Source → Type 0
IsApart (Object id) = Unit {0}
IsApart (Own k) = 0 ≢ k
IsApart Empty = Unit {0}

mode_apart : (m : Mode) (id : Id) → IsApart (item_by m id).source
mode_apart mode.File id = tt
mode_apart mode.Exec id = tt
mode_apart mode.Link id = tt
mode_apart mode.Dir id = tt
mode_apart mode.Gitlink id = tt

entry_apart : (k : ℕ) (o : Origin) → 0 ≢ k → IsApart (source_of k o)
entry_apart k (origin.Object id) other = tt
entry_apart k origin.Own other = other
entry_apart k origin.Empty other = tt

pub only_directory : {X : Type 0} (t : Kind) (o : Option X) (x : X) → if_dir t o ≡ Some x → (t ≡ kind.Dir) × (o ≡ Some x)
only_directory kind.File o x h = absurd (none-some x h)
only_directory kind.Exec o x h = absurd (none-some x h)
only_directory kind.Link o x h = absurd (none-some x h)
only_directory kind.Dir o x h = (refl, h)

called : (b : Bool) (f e : StoredEntry) (es : List StoredEntry) (later : Option StoredEntry) → cond b (Some f) later ≡ Some e → (later ≡ Some e → Contains es e)
    → Contains (f ∷ es) e
called true f e es later is rest = (zero, omega arith, same_Some f e is)
called false f e es later is rest = contains_rest f e es (rest is)

pub found_there : (n : Name) (es : List StoredEntry) (e : StoredEntry) → named (λ (s : StoredEntry). s.name) n es ≡ Some e → Contains es e
found_there n [] e h = absurd (none-some e h)
found_there n (f ∷ es) e h = called (bytes_eq n f.name) f e es (named (λ (s : StoredEntry). s.name) n es) h (found_there n es e)

module _ (R : Repository) (F : Stored) where
  abbrev with_state : Ground Source
  with_state = ground_with R (own_files F)

  abbrev stateless : Ground Source
  stateless = ground_with R (own_files (without F 0))

  tree_apart : (ts : List TreeEntry) (n : Name) (j : Item Source) → tree_items ts n ≡ Some j → IsApart j.source
  tree_apart ts n j h =
      let e = map_some (λ (t : TreeEntry). item_by t.mode t.id) (entry_named n ts) j (sym h) in
      subst (λ (i : Item Source). IsApart i.source) e.1.1 (mode_apart e.0.mode e.0.id)

  own_apart : (k : ℕ) (es : List StoredEntry) (n : Name) (j : Item Source) → entries_at F k ≡ Some es → items_of es n ≡ Some j → IsApart j.source
  own_apart k es n j held h =
      let e = map_some item_of (named (λ (s : StoredEntry). s.name) n es) j (sym h) in
      let least = numbers_from_two F k e.0 (record { entries = es; held = held; there = found_there n es e.0 e.1.0 }) in
      subst (λ (i : Item Source). IsApart i.source) e.1.1 (entry_apart e.0.number e.0.origin (λ is. omega (arith, is, least)))

  below_apart : (s : Source) (n : Name) (j : Item Source) → option_and_then (λ (es : Items Source). es n) (entries_with R (own_files F) s) ≡ Some j → IsApart j.source
  below_apart (Object id) n j h =
      let es = and_then_some (λ (is : Items Source). is n) (option_map tree_items (R.tree id)) j h in
      let ts = map_some tree_items (R.tree id) es.0 (sym es.1.0) in
      tree_apart ts.0 n j (ap (λ (is : Items Source). is n) ts.1.1 ∙ es.1.1)
  below_apart (Own k) n j h =
      let es = and_then_some (λ (is : Items Source). is n) (option_map items_of (entries_at F k)) j h in
      let ts = map_some items_of (entries_at F k) es.0 (sym es.1.0) in
      own_apart k ts.0 n j ts.1.0 (ap (λ (is : Items Source). is n) ts.1.1 ∙ es.1.1)
  below_apart Empty n j h = absurd (none-some j h)

  paths_apart : (p : Path) (i j : Item Source) → IsApart i.source → item_at with_state i p ≡ Some j → IsApart j.source
  paths_apart [] i j apart h = subst (λ (k : Item Source). IsApart k.source) (same_Some i j h) apart
  paths_apart (n ∷ p) i j apart h =
      let m = and_then_some (λ (k : Item Source). item_at with_state k p) (entry_in with_state i n) j h in
      let here = only_directory i.kind (option_and_then (λ (es : Items Source). es n) (entries_with R (own_files F) i.source)) m.0 m.1.0 in
      paths_apart p m.0 j (below_apart i.source n m.0 here.1) m.1.1

  holds_same : (s : Source) → IsApart s → (stateless.entries s ≡ with_state.entries s) × (stateless.content s ≡ with_state.content s)
  holds_same (Object id) apart = (refl, refl)
  holds_same (Own k) apart = (
    ap (λ (b : Option (List ℕ)). option_map items_of (option_and_then entries_in b)) (put_apart F 0 k None apart),
    ap (option_and_then content_in) (put_apart F 0 k None apart),
  )
  holds_same Empty apart = (refl, refl)

  state_unseen : (i : Item Source) → IsApart i.source → shown stateless i ≡ shown with_state i
  state_unseen i apart = sees_its_own Source with_state stateless i (λ p j there. holds_same j.source (paths_apart p i j apart there))

-- what isn't loaded shows what the files do
row_shown : (R : Repository) (F : Stored) (o : Origin) → shown_in R F (fresh_root o) ≡ shown (ground_with R (own_files F)) (item_away (fresh_root o))
row_shown R F o =
    follows_sources Source TableSource Away (ground_with R (own_files F)) (table_ground R (own_files F)) (record { entries = λ s. refl; content = λ s. refl }) (item_away (fresh_root o))

pub shown_is : (R : Repository) (root : Id) (F : Stored) → files_show R root F ≡ shown_in R (without F 0) (root_row root F)
shown_is R root F =
    sym (state_unseen R F (item_of (root_entry root F)) (entry_apart 1 (root_from root (root_file F)) (λ is. omega (arith, is))))
    ∙ sym (row_shown R (without F 0) (root_from root (root_file F)))
