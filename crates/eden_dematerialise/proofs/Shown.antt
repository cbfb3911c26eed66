-- Alike files show the same.
use Rattle.std.proofs.Common.{◌≡◌, ◌≢◌, ◌∙◌, ◌≤◌, ◌⊎◌, ℕ, List, [], ◌∷◌, Option, Some, None, Bool, true, false, refl, sym, ap, subst, inl, inr, arith}
use Rattle.std.specs.Option.{option_and_then, option_map, is_some}
use Rattle.eden_model.specs.declared.id.Id.{Id}
use Rattle.eden_model.specs.declared.kind.Kind.{Kind}
use Rattle.eden_model.specs.declared.kind.Kind.TheVariants as kind
use Rattle.eden_model.specs.declared.kind.Mode.{Mode}
use Rattle.eden_model.specs.declared.kind.Mode.TheVariants as mode
use Rattle.eden_model.specs.declared.kind.Origin.{Origin}
use Rattle.eden_model.specs.declared.kind.Origin.TheVariants as origin
use Rattle.eden_model.specs.declared.node.Node.TheVariants as node
use Rattle.eden_model.specs.declared.tree_entry.TreeEntry.{TreeEntry}
use Rattle.eden_model.specs.Repository.{Repository, Source, Object, Own, Empty, entry_named, ground_with, item_by, root_of, source_of}
use Rattle.eden_model.specs.Repository as repository
use Rattle.eden_model.specs.Shown.{Ground, Item, Items, entry_in, if_dir, node_from, node_of, shown}
use Rattle.eden_model.specs.Trees.{Name, Path}
use Rattle.eden_overlay_format.specs.declared.stored_entry.StoredEntry.{StoredEntry}
use Rattle.eden_overlay_format.specs.Directory.{IsStorable}
use Rattle.eden_overlay.specs.Files.{Stored}
use Rattle.eden_overlay.specs.Held.{content_at, entries_at, item_of, items_of, own_files, root_file}
use Rattle.eden_snapshot.specs.Showing.{FilesShow, root_item}
use Rattle.eden_dematerialise.proofs.Standing.{Becomes, Under, under}
use Rattle.eden_dematerialise.proofs.Alike.{Alike, Pair}

-- it isn't the state's file
abbrev pub IsFar : Source → Type 0
IsFar (Object id) = Unit {0}
IsFar (Own k) = 1 ≤ k
IsFar Empty = Unit {0}

module _ (R : Repository) (F G : Stored) (alike : Alike R F G) where
  abbrev A : Ground Source
  A = ground_with R (own_files F)

  abbrev B : Ground Source
  B = ground_with R (own_files G)

  -- an item of the one, and what it is in the other
  pub data Turns : Item Source → Item Source → Type 0 where
    same : (i : Item Source) → IsFar i.source → Turns i i
    object : (i : Item Source) (k : ℕ) (id : Id) (content : List ℕ) → i.source ≡ Own k → i.kind ≢ kind.Dir → content_at F k ≡ Some content
        → R.blob id ≡ Some content → Turns i (record { kind = i.kind; source = Object id })

  pub data BothTurn : Option (Item Source) → Option (Item Source) → Type 0 where
    nothing : BothTurn None None
    both : (i j : Item Source) → Turns i j → BothTurn (Some i) (Some j)

  -- ---- the node

  listed_same : (o p : Option (List StoredEntry)) → Pair R F o p → is_some (option_map items_of p) ≡ is_some (option_map items_of o)
  listed_same o p Pair.nothing = refl
  listed_same o p (Pair.both commit es ts are s) = refl

  listed_so : (s : Source) → IsFar s → is_some (B.entries s) ≡ is_some (A.entries s)
  listed_so (Object id) far = refl
  listed_so (Own k) far = listed_same (entries_at F k) (entries_at G k) (alike.entries k far)
  listed_so Empty far = refl

  content_so : (s : Source) → IsFar s → B.content s ≡ A.content s
  content_so (Object id) far = refl
  content_so (Own k) far = alike.contents k far
  content_so Empty far = refl

  -- a file's and a link's node is its content's
  closed_node : (t : Kind) (c d : Option (List ℕ)) (a b : Bool) → t ≢ kind.Dir → c ≡ d → node_from t c a ≡ node_from t d b
  closed_node kind.File c d a b closed is = ap (λ x. node.File false x) is
  closed_node kind.Exec c d a b closed is = ap (λ x. node.File true x) is
  closed_node kind.Link c d a b closed is = ap node.Link is
  closed_node kind.Dir c d a b closed is = absurd (closed refl)

  node_turns : (i j : Item Source) → Turns i j → node_of B j ≡ node_of A i
  node_turns i j (Turns.same x far) =
      ap (λ (c : Option (List ℕ)). node_from x.kind c (is_some (B.entries x.source))) (content_so x.source far)
      ∙ ap (λ (b : Bool). node_from x.kind (A.content x.source) b) (listed_so x.source far)
  node_turns i j (Turns.object x k id content own closed held had) =
      closed_node x.kind (R.blob id) (A.content x.source) (is_some (B.entries (Object id))) (is_some (A.entries x.source)) closed (had ∙ sym (ap A.content own ∙ held))

  -- ---- what is below

  mode_far : (m : Mode) (id : Id) → IsFar (item_by m id).source
  mode_far mode.File id = tt
  mode_far mode.Exec id = tt
  mode_far mode.Link id = tt
  mode_far mode.Dir id = tt
  mode_far mode.Gitlink id = tt

  tree_turns : (o : Option TreeEntry) → BothTurn (option_map (λ e. item_by e.mode e.id) o) (option_map (λ e. item_by e.mode e.id) o)
  tree_turns None = BothTurn.nothing
  tree_turns (Some e) = BothTurn.both _ _ (Turns.same (item_by e.mode e.id) (mode_far e.mode e.id))

  object_turns : (n : Name) (o : Option (List TreeEntry)) → BothTurn (option_and_then (λ (es : Items Source). es n) (option_map repository.items_of o))
      (option_and_then (λ (es : Items Source). es n) (option_map repository.items_of o))
  object_turns n None = BothTurn.nothing
  object_turns n (Some es) = tree_turns (entry_named n es)

  origin_far : (k : ℕ) (o : Origin) → 1 ≤ k → IsFar (source_of k o)
  origin_far k (origin.Object id) least = tt
  origin_far k origin.Own least = least
  origin_far k origin.Empty least = tt

  entry_turns : (o p : Option StoredEntry) → Under R F o p → BothTurn (option_map item_of o) (option_map item_of p)
  entry_turns o p Under.nothing = BothTurn.nothing
  entry_turns o p (Under.both e t s becomes) = BothTurn.both (item_of e) (item_of t) (turned e t s becomes)
    where
      turned : (e t : StoredEntry) → IsStorable e → Becomes R F e t → Turns (item_of e) (item_of t)
      turned e t s (Becomes.same x) = Turns.same (item_of x) (origin_far x.number x.origin (let least = s.least in omega (arith, least)))
      turned e t s (Becomes.object x id had) =
          Turns.object (item_of x) x.number id had.content (ap (source_of x.number) had.own) had.closed had.held had.had

  own_turns : (n : Name) (o p : Option (List StoredEntry)) → Pair R F o p
      → BothTurn (option_and_then (λ (es : Items Source). es n) (option_map items_of o)) (option_and_then (λ (es : Items Source). es n) (option_map items_of p))
  own_turns n o p Pair.nothing = BothTurn.nothing
  own_turns n o p (Pair.both commit es ts are s) = entry_turns _ _ (under R F n es ts are.each s)

  source_turns : (n : Name) (s : Source) → IsFar s → BothTurn (option_and_then (λ (es : Items Source). es n) (A.entries s)) (option_and_then (λ (es : Items Source). es n) (B.entries s))
  source_turns n (Object id) far = object_turns n (R.tree id)
  source_turns n (Own k) far = own_turns n (entries_at F k) (entries_at G k) (alike.entries k far)
  source_turns n Empty far = BothTurn.nothing

  in_directory : (t : Kind) (o p : Option (Item Source)) → BothTurn o p → BothTurn (if_dir t o) (if_dir t p)
  in_directory kind.File o p b = BothTurn.nothing
  in_directory kind.Exec o p b = BothTurn.nothing
  in_directory kind.Link o p b = BothTurn.nothing
  in_directory kind.Dir o p b = b

  in_none : (t : Kind) (o p : Option (Item Source)) → t ≢ kind.Dir → BothTurn (if_dir t o) (if_dir t p)
  in_none kind.File o p closed = BothTurn.nothing
  in_none kind.Exec o p closed = BothTurn.nothing
  in_none kind.Link o p closed = BothTurn.nothing
  in_none kind.Dir o p closed = absurd (closed refl)

  below_turns : (n : Name) (i j : Item Source) → Turns i j → BothTurn (entry_in A i n) (entry_in B j n)
  below_turns n i j (Turns.same x far) = in_directory x.kind _ _ (source_turns n x.source far)
  below_turns n i j (Turns.object x k id content own closed held had) = in_none x.kind _ _ closed

  further : (p : Path) → ((i j : Item Source) → Turns i j → shown B j p ≡ shown A i p) → (o q : Option (Item Source)) → BothTurn o q
      → option_and_then (λ x. shown B x p) q ≡ option_and_then (λ x. shown A x p) o
  further p below o q BothTurn.nothing = refl
  further p below o q (BothTurn.both x y s) = below x y s

  pub shown_turns : (p : Path) (i j : Item Source) → Turns i j → shown B j p ≡ shown A i p
  shown_turns [] i j t = ap Some (node_turns i j t)
  shown_turns (n ∷ p) i j t = further p (λ x y s. shown_turns p x y s) (entry_in A i n) (entry_in B j n) (below_turns n i j t)

  -- ---- from the root on

  root_turns : (root to : Id) (o q : Option (List ℕ)) → is_some q ≡ is_some o → (is_some o ≡ true) ⊎ (root ≡ to) → Turns (root_item root o) (root_item to q)
  root_turns root to None None is (inl rooted) = absurd (cc)
  root_turns root to None None is (inr one) = subst (λ t. Turns (root_of root) (root_of t)) one (Turns.same (root_of root) tt)
  root_turns root to None (Some b) is which = absurd (cc)
  root_turns root to (Some a) None is which = absurd (cc)
  root_turns root to (Some a) (Some b) is which = Turns.same (root_item root (Some a)) (omega arith)

  -- over another tree too, where the root is the mount's own
  pub same_shown : (root to : Id) → (is_some (root_file F) ≡ true) ⊎ (root ≡ to) → (p : Path) → FilesShow R to G p ≡ FilesShow R root F p
  same_shown root to which p = shown_turns p _ _ (root_turns root to (root_file F) (root_file G) alike.root which)
