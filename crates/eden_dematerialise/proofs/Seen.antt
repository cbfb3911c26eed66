-- Files that nobody reads show nothing.
use Rattle.std.proofs.Common.{◌≡◌, ◌∙◌, ℕ, List, [], ◌∷◌, Option, Some, None, IfSome, cond, true, false, Contains, refl, ap, subst}
use Rattle.std.specs.Option.{option_and_then, option_map, is_some}
use Rattle.std.proofs.lemmas.Option.{none-some, same_Some}
use Rattle.std.specs.Str.{bytes_eq}
use Rattle.eden_model.specs.declared.id.Id.{Id}
use Rattle.eden_model.specs.declared.kind.Kind.{Kind}
use Rattle.eden_model.specs.declared.kind.Kind.TheVariants as kind
use Rattle.eden_model.specs.declared.kind.Mode.{Mode}
use Rattle.eden_model.specs.declared.kind.Mode.TheVariants as mode
use Rattle.eden_model.specs.declared.kind.Origin.{Origin}
use Rattle.eden_model.specs.declared.kind.Origin.TheVariants as origin
use Rattle.eden_model.specs.declared.tree_entry.TreeEntry.{TreeEntry}
use Rattle.eden_model.specs.Named.{named}
use Rattle.eden_model.specs.Repository.{Repository, Source, Object, Own, Empty, entry_named, ground_with, item_by, root_of, source_of}
use Rattle.eden_model.specs.Repository as repository
use Rattle.eden_model.specs.Shown.{Ground, Item, Items, entry_in, if_dir, node_from, node_of, shown}
use Rattle.eden_model.specs.Trees.{Name, Path}
use Rattle.eden_overlay_format.specs.declared.stored_entry.StoredEntry.{StoredEntry}
use Rattle.eden_overlay_format.specs.Values.{content_in, entries_in}
use Rattle.eden_overlay.specs.Files.{Stored}
use Rattle.eden_overlay.specs.Held.{entries_at, item_of, items_of, own_files, root_file}
use Rattle.eden_overlay.specs.Soundness.{IsLive, Names, below, here}
use Rattle.eden_overlay.proofs.CallerLemmas.{contains_first, contains_rest, root_same}
use Rattle.eden_snapshot.specs.Showing.{FilesShow, root_item}
use Rattle.eden_dematerialise.specs.Dematerialising.{RemovesUnread}
use Rattle.eden_dematerialise.proofs.Removed.{own_stays, root_kept}

-- what is found under a name is there
found : (n : Name) (es : List StoredEntry) (e : StoredEntry) → named (λ (x : StoredEntry). x.name) n es ≡ Some e → Contains es e
found n [] e is = absurd (none-some e is)
found n (x ∷ es) e is = elim (bytes_eq n x.name) as (λ b. cond b (Some x) (named (λ (y : StoredEntry). y.name) n es) ≡ Some e → Contains (x ∷ es) e) [
  | true ↦ λ here_is. subst (Contains (x ∷ es)) (same_Some x e here_is) (contains_first x es)
  | false ↦ λ later. contains_rest x e es (found n es e later)
] is

module _ (R : Repository) (F G : Stored) (removes : RemovesUnread F G) where
  abbrev A : Ground Source
  A = ground_with R (own_files F)

  abbrev B : Ground Source
  B = ground_with R (own_files G)

  -- where its contents come from is as it was, and a directory of the overlay's own is live
  abbrev pub IsSeen : Kind → Source → Type 0
  IsSeen t (Object id) = Unit {0}
  IsSeen t (Own k) = (G k ≡ F k) × (t ≡ kind.Dir → IsLive F k)
  IsSeen t Empty = Unit {0}

  content_so : (t : Kind) (x : Source) → IsSeen t x → B.content x ≡ A.content x
  content_so t (Object id) seen = refl
  content_so t (Own k) seen = ap (option_and_then content_in) seen.0
  content_so t Empty seen = refl

  entries_so : (t : Kind) (x : Source) → IsSeen t x → B.entries x ≡ A.entries x
  entries_so t (Object id) seen = refl
  entries_so t (Own k) seen = ap (λ (o : Option (List ℕ)). option_map items_of (option_and_then entries_in o)) seen.0
  entries_so t Empty seen = refl

  node_so : (i : Item Source) → IsSeen i.kind i.source → node_of B i ≡ node_of A i
  node_so i seen =
      ap (λ (c : Option (List ℕ)). node_from i.kind c (is_some (B.entries i.source))) (content_so i.kind i.source seen)
      ∙ ap (λ (es : Option (Items Source)). node_from i.kind (A.content i.source) (is_some es)) (entries_so i.kind i.source seen)

  entry_seen : (d : ℕ) (e : StoredEntry) → IsLive F d → Names F d e → IsSeen e.kind (source_of e.number e.origin)
  entry_seen d e live n = by_origin e.origin refl
    where
      by_origin : (o : Origin) → e.origin ≡ o → IsSeen e.kind (source_of e.number o)
      by_origin (origin.Object id) is = tt
      by_origin origin.Own is = (own_stays F G removes d e live n is, λ dir. below d e live n (dir, is))
      by_origin origin.Empty is = tt

  abbrev AllSeen : Option (Item Source) → Type 0
  AllSeen o = IfSome o (λ i. IsSeen i.kind i.source)

  mode_seen : (m : Mode) (id : Id) → IsSeen (item_by m id).kind (item_by m id).source
  mode_seen mode.File id = tt
  mode_seen mode.Exec id = tt
  mode_seen mode.Link id = tt
  mode_seen mode.Dir id = tt
  mode_seen mode.Gitlink id = tt

  tree_seen : (o : Option TreeEntry) → AllSeen (option_map (λ e. item_by e.mode e.id) o)
  tree_seen None = tt
  tree_seen (Some e) = mode_seen e.mode e.id

  object_seen : (n : Name) (o : Option (List TreeEntry)) → AllSeen (option_and_then (λ (es : Items Source). es n) (option_map repository.items_of o))
  object_seen n None = tt
  object_seen n (Some es) = tree_seen (entry_named n es)

  one_seen : (k : ℕ) (n : Name) (es : List StoredEntry) (o : Option StoredEntry) → IsLive F k → entries_at F k ≡ Some es
      → named (λ (x : StoredEntry). x.name) n es ≡ o → AllSeen (option_map item_of o)
  one_seen k n es None live held is = tt
  one_seen k n es (Some e) live held is = entry_seen k e live (record { entries = es; held = held; there = found n es e is })

  own_seen : (k : ℕ) (n : Name) (o : Option (List StoredEntry)) → IsLive F k → entries_at F k ≡ o
      → AllSeen (option_and_then (λ (es : Items Source). es n) (option_map items_of o))
  own_seen k n None live held = tt
  own_seen k n (Some es) live held = one_seen k n es (named (λ (x : StoredEntry). x.name) n es) live held refl

  in_directory : (x : Source) (n : Name) → IsSeen kind.Dir x → AllSeen (option_and_then (λ (es : Items Source). es n) (A.entries x))
  in_directory (Object id) n seen = object_seen n (R.tree id)
  in_directory (Own k) n seen = own_seen k n (entries_at F k) (seen.1 refl) refl
  in_directory Empty n seen = tt

  within : (t : Kind) (x : Source) (n : Name) → IsSeen t x → AllSeen (if_dir t (option_and_then (λ (es : Items Source). es n) (A.entries x)))
  within kind.File x n seen = tt
  within kind.Exec x n seen = tt
  within kind.Link x n seen = tt
  within kind.Dir x n seen = in_directory x n seen

  further : (p : Path) → ((i : Item Source) → IsSeen i.kind i.source → shown B i p ≡ shown A i p) → (o : Option (Item Source)) → AllSeen o
      → option_and_then (λ i. shown B i p) o ≡ option_and_then (λ i. shown A i p) o
  further p each None seen = refl
  further p each (Some i) seen = each i seen

  pub shown_so : (p : Path) (i : Item Source) → IsSeen i.kind i.source → shown B i p ≡ shown A i p
  shown_so [] i seen = ap Some (node_so i seen)
  shown_so (n ∷ p) i seen =
      ap (λ (es : Option (Items Source)). option_and_then (λ j. shown B j p) (if_dir i.kind (option_and_then (λ (x : Items Source). x n) es))) (entries_so i.kind i.source seen)
      ∙ further p (λ j. shown_so p j) (entry_in A i n) (within i.kind i.source n seen)

  root_seen : (root : Id) (o : Option (List ℕ)) → IsSeen (root_item root o).kind (root_item root o).source
  root_seen root None = tt
  root_seen root (Some bytes) = (root_kept F G removes, λ dir. here)

  pub still_shown : (root : Id) (p : Path) → FilesShow R root G p ≡ FilesShow R root F p
  still_shown root p =
      ap (λ (o : Option (List ℕ)). shown B (root_item root o) p) (root_same G F (root_kept F G removes)) ∙ shown_so p _ (root_seen root (root_file F))
