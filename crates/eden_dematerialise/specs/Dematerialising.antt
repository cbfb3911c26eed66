-- Own files whose contents a repository has, and directories that stand on its objects in their place.
use Rattle.std.specs.Prelude.{◌≡◌, ◌≢◌, ◌≤◌, ◌⊎◌, ℕ, List, [], ◌∷◌, length, Some, None, IsSome}
use Rattle.eden_model.specs.declared.id.Id.{Id}
use Rattle.eden_model.specs.declared.kind.Mode.TheVariants as mode
use Rattle.eden_model.specs.declared.tree_entry.TreeEntry.{TreeEntry}
use Rattle.eden_model.specs.declared.kind.Kind.TheVariants as kind
use Rattle.eden_model.specs.declared.kind.Origin.TheVariants as origin
use Rattle.eden_model.specs.Repository.{Repository}
use Rattle.eden_model.specs.Trees.{Path}
use Rattle.eden_object.specs.declared.word.Word.TheVariants as word
use Rattle.eden_object.specs.Frames.{frame}
use Rattle.eden_overlay_format.specs.declared.state.State.{State}
use Rattle.eden_overlay_format.specs.declared.stored_entry.StoredEntry.{StoredEntry}
use Rattle.eden_overlay_format.specs.State.{IsGoodState}
use Rattle.eden_overlay.specs.Counting.{NumbersAreSound}
use Rattle.eden_overlay.specs.Files.{Stored}
use Rattle.eden_overlay.specs.Held.{HoldsContent, HoldsEntries, HoldsState, root_file, with_entries, with_state}
use Rattle.eden_overlay.specs.Soundness.{AreSound, IsLive, LeadsOn, Names}
use Rattle.eden_snapshot.specs.Commits.{place_named}
use Rattle.eden_snapshot.specs.Showing.{FilesShow}
use Rattle.eden_snapshot.specs.Written.{IsIdOf, mode_of}

-- the entry of the same name, kind and number, with its contents from that object
abbrev pub on_object : StoredEntry → Id → StoredEntry
on_object e id = record { name = e.name; kind = e.kind; origin = origin.Object id; number = e.number }

-- the repository has the content of the entry's own file under the id
pub record IsHad (R : Repository) (F : Stored) (e : StoredEntry) (id : Id) : Type 0 where
  pub own : e.origin ≡ origin.Own
  pub closed : e.kind ≢ kind.Dir
  pub content : List ℕ
  pub held : HoldsContent F e.number content
  pub had : R.blob id ≡ Some content
  pub long : length id.bytes ≡ 20

-- of a directory's entries some stand on the commit's objects of their names and kinds, which have their contents, and the others are as they were
pub data Stand (R : Repository) (F : Stored) (commit : List TreeEntry) : List StoredEntry → List StoredEntry → Type 0 where
  none : Stand R F commit [] []
  stays : (entries then : List StoredEntry) (e : StoredEntry) → Stand R F commit entries then → Stand R F commit (e ∷ entries) (e ∷ then)
  object : (entries then : List StoredEntry) (e : StoredEntry) (id : Id) → Stand R F commit entries then → IsHad R F e id
      → place_named e.name commit ≡ Some (mode_of e.kind, id) → Stand R F commit (e ∷ entries) (on_object e id ∷ then)

-- the own directory k, where the commit has the tree t, is d with its tree, or lies below it, where the commit has trees too
pub data Leads (R : Repository) (F : Stored) : ℕ → Id → ℕ → Id → Type 0 where
  here : (d : ℕ) (tree : Id) → Leads R F d tree d tree
  inside : (d : ℕ) (tree below t : Id) (k : ℕ) (e : StoredEntry) (commit : List TreeEntry) → Names F d e → LeadsOn e → R.tree tree ≡ Some commit
      → place_named e.name commit ≡ Some (mode.Dir, below) → Leads R F e.number below k t → Leads R F d tree k t

-- The files F became G: one own directory after another was stored so, to which the directory k leads where the commit has the tree `to`, and nothing
-- else changed.
pub data Dematerialises (R : Repository) (k : ℕ) (to : Id) (F : Stored) : Stored → Type 0 where
  begun : Dematerialises R k to F F
  stored : (G : Stored) (d : ℕ) (tree : Id) (commit : List TreeEntry) (entries then : List StoredEntry) → Dematerialises R k to F G → 1 ≤ d
      → Leads R G k to d tree → R.tree tree ≡ Some commit → HoldsEntries G d entries → Stand R G commit entries then
      → Dematerialises R k to F (with_entries G d then)

-- the state with that tree in the place of its own
abbrev pub moved_to : Id → State → State
moved_to to s = record { root = to; next = s.next }

-- where the root is the mount's own, the state says that the files stand on that tree
pub data Moves (to : Id) (F : Stored) : Stored → Type 0 where
  unrooted : root_file F ≡ None → Moves to F F
  moved : (s : State) → IsSome (root_file F) → HoldsState F s → IsGoodState (moved_to to s) → Moves to F (with_state F (moved_to to s))

-- ---- what nobody reads

-- a file or a link whose contents aren't the overlay's
abbrev pub IsElsewhere : StoredEntry → Type 0
IsElsewhere e = (e.kind ≢ kind.Dir) × (e.origin ≢ origin.Own)

-- an entry of a live directory has the number k, and is so
pub record HasEntry (F : Stored) (Is : StoredEntry → Type 0) (k : ℕ) : Type 0 where
  pub directory : ℕ
  pub entry : StoredEntry
  pub live : IsLive F directory
  pub names : Names F directory entry
  pub is : Is entry
  pub number : entry.number ≡ k

abbrev pub IsOwn : StoredEntry → Type 0
IsOwn e = e.origin ≡ origin.Own

-- it is such a file's or link's number, and no own entry's: so no entry leads to file k
abbrev pub IsUnread : Stored → ℕ → Type 0
IsUnread F k = HasEntry F IsElsewhere k × (¬ HasEntry F IsOwn k)

-- of F files are gone that nobody reads, and nothing else changed
abbrev pub RemovesUnread : Stored → Stored → Type 0
RemovesUnread F G = (k : ℕ) → (G k ≡ F k) ⊎ ((G k ≡ None) × IsUnread F k)

-- no such file is there
abbrev pub HasNoneUnread : Stored → Type 0
HasNoneUnread F = (k : ℕ) → IsUnread F k → F k ≡ None

-- ---- what stays

-- The files F became G. Over the tree that its state says, each shows the same; G are sound if F were; and the state gives the same
-- number next.
pub record ShowTheSame (R : Repository) (F G : Stored) : Type 0 where
  pub shown : (s t : State) → HoldsState F s → HoldsState G t → (p : Path) → FilesShow R t.root G p ≡ FilesShow R s.root F p
  pub sound : AreSound F → AreSound G
  pub numbers : (s t : State) → HoldsState F s → HoldsState G t → NumbersAreSound F s.root → NumbersAreSound G t.root
  pub next : (s t : State) → HoldsState F s → HoldsState G t → t.next ≡ s.next

-- ---- what is left

-- among the commit's entries is a blob of the own file's or link's name, of its kind and with its content
pub record IsAmong (R : Repository) (F : Stored) (commit : List TreeEntry) (e : StoredEntry) : Type 0 where
  pub id : Id
  pub had : IsHad R F e id
  pub digest : IsIdOf id (frame word.Blob had.content)
  pub place : place_named e.name commit ≡ Some (mode_of e.kind, id)

-- the directory k has no such entry, where the commit has the tree t
abbrev pub HasNone : Repository → Stored → ℕ → Id → Type 0
HasNone R F k t = (e : StoredEntry) (commit : List TreeEntry) → Names F k e → R.tree t ≡ Some commit → ¬ IsAmong R F commit e

-- .. nor has any directory from d on
abbrev pub NoneIsLeft : Repository → Stored → ℕ → Id → Type 0
NoneIsLeft R F d tree = (k : ℕ) (t : Id) → Leads R F d tree k t → HasNone R F k t

-- ---- the whole

-- own directories were dematerialised, and then the files moved to the tree
pub record AreMoved (R : Repository) (to : Id) (F G : Stored) : Type 0 where
  pub between : Stored
  pub listed : Dematerialises R 1 to F between
  pub moves : Moves to between G

-- the files were dematerialised and moved, and then removed as far as nobody reads them, so that nothing is left
pub record AreDematerialised (R : Repository) (to : Id) (F G : Stored) : Type 0 where
  pub standing : Stored
  pub moved : AreMoved R to F standing
  pub removed : RemovesUnread standing G
  pub left : NoneIsLeft R G 1 to
  pub unread : HasNoneUnread G

-- .. or it was done so far
pub data AreSoFar (R : Repository) (to : Id) (F G : Stored) : Type 0 where
  listed : Dematerialises R 1 to F G → AreSoFar R to F G
  moved : (standing : Stored) → AreMoved R to F standing → RemovesUnread standing G → AreSoFar R to F G
