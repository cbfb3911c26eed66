-- Which faults an attempt may answer.
use Rattle.std.specs.Prelude.{◌≡◌, ◌<◌, ◌+◌, ◌⊎◌, ℕ, List, length, Some, None}
use Rattle.eden_model.specs.declared.fault.Fault.{Fault}
use Rattle.eden_model.specs.declared.fault.Fault.TheVariants as fault
use Rattle.eden_model.specs.declared.id.Id.{Id}
use Rattle.eden_model.specs.declared.kind.Kind.{Kind}
use Rattle.eden_model.specs.declared.kind.Kind.TheVariants as kind
use Rattle.eden_model.specs.declared.kind.Origin.TheVariants as origin
use Rattle.eden_model.specs.declared.request.Request.{Request}
use Rattle.eden_model.specs.declared.request.Request.TheVariants as ask
use Rattle.eden_model.specs.declared.reply.Reply.{Reply}
use Rattle.eden_model.specs.declared.reply.Reply.TheVariants as say
use Rattle.eden_model.specs.declared.tree_entry.TreeEntry.{TreeEntry}
use Rattle.eden_model.specs.declared.world.World.{Ghosts}
use Rattle.eden_model.specs.Limits.{number_end}
use Rattle.eden_model.specs.Failures.{Rose}
use Rattle.eden_model.specs.Operations.{Replies}
use Rattle.eden_model.specs.Trees.{Path, Unlisted, walk}
use Rattle.eden_overlay.specs.declared.files.Files.{Ghosts as Files}
use Rattle.eden_overlay.specs.Files.{Stored}
use Rattle.eden_overlay.specs.Held.{entries_at, content_at}
use Rattle.eden_tree.specs.Directory.{Row}
use Rattle.eden_tree.specs.Paths.{row_at}
use Rattle.eden_coupling.specs.Loading.{IsAt}
use Rattle.eden_inode.specs.Faults.{AreBadNumbers}
use Rattle.eden_inode.specs.Tables.{Table}
use Rattle.eden_ops.specs.Known.{known, place}

-- a request that makes an entry
pub data Makes : Request → Type 0 where
  creates : (p : Path) → Makes (ask.Create p)
  makes_dir : (p : Path) → Makes (ask.Mkdir p)
  links : (p : Path) (target : List ℕ) → Makes (ask.Symlink p target)

-- want of memory never comes if the directories above the path of a `kind` are loaded
abbrev pub MayWantMemory : Request → Row → Type 0
MayWantMemory q x = (p : Path) → q ≡ ask.Kind p → walk (known x) p ≡ Unlisted

-- the file of that number holds nothing of the kind: it isn't stored, or is damaged
abbrev pub HoldsNone : Stored → Kind → ℕ → Type 0
HoldsNone F kind.File k = content_at F k ≡ None
HoldsNone F kind.Exec k = content_at F k ≡ None
HoldsNone F kind.Link k = content_at F k ≡ None
HoldsNone F kind.Dir k = entries_at F k ≡ None

-- What is stored for the entry is unavailable. If it is the mount's own, its file holds nothing of its kind; if it is a directory on a tree
-- object, its file has numbers that can't be read.
pub data IsBad (honest : Type 0) (F : Stored) (y : Row) : Type 0 where
  own : y.origin ≡ origin.Own → (honest → HoldsNone F y.kind y.number) → IsBad honest F y
  numbers : (id : Id) → y.origin ≡ origin.Object id → y.kind ≡ kind.Dir → (honest → AreBadNumbers id (F y.number)) → IsBad honest F y

-- what memory knows gives the request no reply, and this holds of the place where its checks end
abbrev pub IsHeldUp : Request → Row → (Path → Type 0) → Type 0
IsHeldUp q x Holds = ((r : Reply) → ¬ Replies (known x) q r) × Holds (place (known x) q)

-- by what memory knows an entry is made, and no number is left for it
abbrev pub WantsNumber : Request → Row → ℕ → Type 0
WantsNumber q x next = Makes q × Replies (known x) q say.Ok × (number_end < next + 1)

module _ {W F : Type 0} (w : Ghosts W) (f : Files F W) where
  -- the stored file of the entry at a path is of no use
  pub record IsDamaged (p : Path) (t : Table F) : Type 0 where
    pub row : Row
    pub there : row_at p t.root ≡ Some row
    pub damaged : IsBad w.honest (f.stored t.files) row

  -- the numbers that are left are too few for the entries of the tree object of a directory
  pub record WantsNumbers (p : Path) (t : Table F) : Type 0 where
    pub id : Id
    pub at : IsAt p t.root (origin.Object id)
    pub entries : List TreeEntry
    pub tree : w.honest → w.repository.tree id ≡ Some entries
    pub few : number_end < t.next + length entries

  -- why a directory isn't loaded, or a content not had: s is the table before, and t the one after
  abbrev pub IsCaused : Path → Table F → Table F → Fault → Type 0
  IsCaused p s t (fault.Fetch id cause) = ⊥
  IsCaused p s t fault.Memory = Unit {0}
  IsCaused p s t fault.Overlay = Rose (f.failures s.files) (f.failures t.files) ⊎ IsDamaged p t
  IsCaused p s t fault.Numbers = WantsNumbers p t

  -- No attempt answers a fetch fault. Of the others each comes where it has its cause; one of a file that is read, or of numbers
  -- for a directory's entries, only if the request has no reply without them.
  abbrev pub IsLawful : Request → Table F → Table F → Fault → Type 0
  IsLawful q s t (fault.Fetch id cause) = ⊥
  IsLawful q s t fault.Memory = MayWantMemory q s.root
  IsLawful q s t fault.Overlay = Rose (f.failures s.files) (f.failures t.files) ⊎ IsHeldUp q t.root (λ p. IsDamaged p t)
  IsLawful q s t fault.Numbers = WantsNumber q t.root t.next ⊎ IsHeldUp q t.root (λ p. WantsNumbers p t)
