-- The tree as it is seen through a folder: the mount's, with what waits to be stored in it.
use Rattle.std.specs.Prelude.{◌≡◌, ◌==◌, ◌&&◌, ◌≤◌, ◌+◌, ℕ, Bool, true, false, List, [], ◌∷◌, drop, length, reverse, take}
use Rattle.std.specs.Prelude.{Option, Some, None, option_map, Result, Ok, Err}
use Rattle.std.specs.Map.{lookup}
use Rattle.std.specs.Str.{bytes_eq}
use Rattle.eden_model.specs.declared.fault.CallFault.{CallFault}
use Rattle.eden_model.specs.declared.node.Node.{Node}
use Rattle.eden_model.specs.declared.reply.Reply.{Reply}
use Rattle.eden_model.specs.declared.reply.Reply.TheVariants as say
use Rattle.eden_model.specs.declared.request.Request.{Request}
use Rattle.eden_model.specs.declared.request.Request.TheVariants as ask
use Rattle.eden_model.specs.Histories.{fault_of}
use Rattle.eden_model.specs.Limits.{most_file}
use Rattle.eden_model.specs.Operations.{Replies, after, with_content, written}
use Rattle.eden_model.specs.Trees.{Name, Path, Tree}
use Rattle.eden_fuse_format.specs.declared.message.Header.{Header}
use Rattle.eden_fuse_format.specs.declared.structs.FSyncIn.{FSyncIn}
use Rattle.eden_fuse_format.specs.Asked.{Asked as asked}
use Rattle.eden_fuse_nodes.specs.declared.place.Place.{Place}
use Rattle.eden_fuse_nodes.specs.Tables.{IsNodeTable, place_of, root}
use Rattle.eden_fuse_nodes.specs.Tables.{Table as Nodes}
use Rattle.eden_fuse_nodes.specs.Ways.{LiesAt}
use Rattle.eden_fuse_session.specs.Turns.{Told}
use Rattle.eden_fuse_shown.specs.Running.{Replying, Syncing}
use Rattle.eden_fuse_shown.specs.declared.extents.Gap.{Gap}
use Rattle.eden_fuse_shown.specs.Showing.{Showing, Joins, JoinsOver, LooksBetween, Settles, Shows, failed}
use Rattle.eden_fuse_shown.specs.Waiting.{Extent, can_join, extent_of, gap_of, seen_length, seen_part}
use Rattle.eden_fuse_shown.specs.Waiting.{Table as Waits}

-- ---- the node at a path

abbrev pub goes_up : Option Place → Name → (ℕ → Bool) → Bool
goes_up None name further = false
goes_up (Some p) name further = bytes_eq p.name name && further p.parent

-- these names lead from a node up to the root, its own first
abbrev pub leads_up : Nodes → List Name → ℕ → Bool
leads_up nodes [] id = id == root
leads_up nodes (name ∷ up) id = goes_up (place_of nodes id) name (λ parent. leads_up nodes up parent)

-- a node lies at the path
abbrev pub lies_at : Nodes → Path → ℕ → Bool
lies_at nodes p id = leads_up nodes (reverse p) id

-- ---- the tree

-- what waits for the node at the path
abbrev pub waits_at : Nodes → Waits → Path → Option Extent
waits_at nodes waits p = lookup (lies_at nodes p) waits

-- what stands at a path, with what waits for it
abbrev pub with_waiting : Option Extent → Option Node → Option Node
with_waiting None o = o
with_waiting (Some e) o = option_map (with_content (option_map (written e.from e.bytes))) o

abbrev pub seen_tree : Tree → Nodes → Waits → Tree
seen_tree F nodes waits p = with_waiting (waits_at nodes waits p) (F p)

-- ---- laws

-- a file's length is told as what is seen has it
abbrev pub LengthsAsSeen : Type 0
LengthsAsSeen = (e : Extent) (content : List ℕ) → e.from + length e.bytes ≤ most_file
    → seen_length (Some e) (length content) ≡ length (written e.from e.bytes content)

-- .. and so is a part of it that is read
abbrev pub PartsAsSeen : Type 0
PartsAsSeen = (e : Extent) (content : List ℕ) (from count : ℕ)
    → seen_part (Some e) from count (take count (drop from content)) ≡ take count (drop from (written e.from e.bytes content))

-- the test says where a node lies
abbrev pub LiesAsTold : Type 0
LiesAsTold = (nodes : Nodes) (p : Path) (id : ℕ) → (lies_at nodes p id ≡ true → LiesAt nodes id p) × (LiesAt nodes id p → lies_at nodes p id ≡ true)

-- the tree after what a mount said
abbrev pub tree_after : Tree → Request → Result Reply CallFault → Tree
tree_after F q (Ok reply) = after F q reply
tree_after F q (Err fault) = F

module _ {S : Type 0} (answers : Replying S) (tree : S → Tree) where
  -- the mount's tree is what its replies make of it
  abbrev pub Follows : Type 0
  Follows = (s : S) (q : Request) (r : Result Reply CallFault) (t : S) → answers s q r t → tree t ≡ tree_after (tree s) q r

  -- its replies are what its tree says
  abbrev pub Tells : Type 0
  Tells = (s : S) (q : Request) (r : Reply) (t : S) → answers s q (Ok r) t → fault_of r ≡ None → Replies (tree s) q r

  -- what is seen
  abbrev pub seen : Showing S → Tree
  seen s = seen_tree (tree s.mount) s.nodes s.waits

  -- a write that waits makes of what is seen what a mount's patch makes of its tree
  abbrev pub WaitsAsWritten : Type 0
  WaitsAsWritten = (node offset : ℕ) (b : List ℕ) (old new : Showing S) (t : Told) (p q : Path) → IsNodeTable old.nodes
      → can_join (extent_of old.waits node) offset ≡ true → Joins answers node offset b old t new → LiesAt old.nodes node p
      → seen new q ≡ after (seen old) (ask.Patch p offset b) (say.Count (length b)) q

  -- to look at what lies between changes nothing that is seen
  abbrev pub LooksUnseen : Type 0
  LooksUnseen = Follows → (node : ℕ) (gap : Option Gap) (old new : Showing S) (found : Option (List ℕ)) (q : Path)
      → LooksBetween answers node gap old found new → seen new q ≡ seen old q

  -- .. and a write that waits with that makes of what is seen what a mount's patch makes of its tree
  abbrev pub BridgesAsWritten : Type 0
  BridgesAsWritten = Follows → Tells → (node offset : ℕ) (b between : List ℕ) (old mid new : Showing S) (t : Told) (p q : Path) → IsNodeTable old.nodes
      → LooksBetween answers node (gap_of old.waits node offset b) old (Some between) mid → JoinsOver answers node offset between b mid t new
      → LiesAt old.nodes node p → seen new q ≡ after (seen old) (ask.Patch p offset b) (say.Count (length b)) q

  -- to store what waits changes nothing that is seen, whether the mount does it, refuses it, or isn't heard
  abbrev pub StoresUnseen : Type 0
  StoresUnseen = Follows → (node : ℕ) (old new : Showing S) (why : Option ℕ) (q : Path) → IsNodeTable old.nodes
      → Settles answers node old why new → seen new q ≡ seen old q

  -- once nothing waits for a node, the mount has what was seen at its path
  abbrev pub IsThereOnceStored : Type 0
  IsThereOnceStored = Follows → (node : ℕ) (old new : Showing S) (p : Path) → IsNodeTable old.nodes → Settles answers node old None new
      → LiesAt old.nodes node p → tree new.mount p ≡ seen old p

  -- where an `fsync` of a file was told no error, the mount had what was seen at its path, and waited for the disk after that
  abbrev pub IsSyncedAsSeen : Syncing S → Type 0
  IsSyncedAsSeen syncs = Follows → (h : Header) (s : FSyncIn) (old new : Showing S) (t : Told) (p : Path) → IsNodeTable old.nodes
      → Shows answers syncs old h (asked.FSync s) t new → failed t ≡ false → LiesAt old.nodes h.nodeid p
      → (mid : S) × (tree mid p ≡ seen old p) × syncs mid true new.mount
