-- Changes that are told exactly where two trees differ.
use Rattle.std.specs.Prelude.{◌≡◌, ◌⊎◌, ℕ, true, List, ◌∷◌, ◌++◌, Option, Some, None, Contains}
use Rattle.eden_model.specs.declared.id.Id.{Id}
use Rattle.eden_model.specs.declared.kind.Kind.{Kind}
use Rattle.eden_model.specs.declared.kind.Kind.TheVariants as kind
use Rattle.eden_model.specs.declared.kind.Mode.{Mode}
use Rattle.eden_model.specs.declared.kind.Mode.TheVariants as mode
use Rattle.eden_model.specs.declared.node.Node.{Node}
use Rattle.eden_model.specs.declared.node.Node.TheVariants as node
use Rattle.eden_model.specs.Operations.{kind_of}
use Rattle.eden_model.specs.Repository.{Repository, Whole}
use Rattle.eden_model.specs.Trees.{Name, Path, Tree}
use Rattle.eden_object.specs.declared.word.Word.TheVariants as word
use Rattle.eden_object.specs.Frames.{frame}
use Rattle.eden_overlay.specs.Files.{Stored}
use Rattle.eden_overlay.specs.Held.{HoldsContent}
use Rattle.eden_snapshot.specs.declared.change.Change.{Change}
use Rattle.eden_snapshot.specs.declared.change.How.TheVariants as how
use Rattle.eden_snapshot.specs.Changes.{Told}
use Rattle.eden_snapshot.specs.Showing.{FilesShow}
use Rattle.eden_snapshot.specs.Sinks.{HasObject}
use Rattle.eden_snapshot.specs.Written.{IsIdOf}

-- ---- at one path

-- what an entry of that mode shows as: a submodule as a directory
abbrev pub shows_as : Mode → Kind
shows_as mode.File = kind.File
shows_as mode.Exec = kind.Exec
shows_as mode.Link = kind.Link
shows_as mode.Dir = kind.Dir
shows_as mode.Gitlink = kind.Dir

-- files, links, directories
abbrev pub sort_shown : Node → ℕ
sort_shown (node.File x c) = 0
sort_shown (node.Link c) = 1
sort_shown (node.Dir listed) = 2

abbrev pub IsDirectory : Node → Type 0
IsDirectory x = sort_shown x ≡ 2

-- it doesn't tell all that stands there: its content is lost, or it is a directory, whose insides stand below
abbrev pub TellsLess : Node → Type 0
TellsLess (node.File x None) = Unit {0}
TellsLess (node.File x (Some c)) = ⊥
TellsLess (node.Link None) = Unit {0}
TellsLess (node.Link (Some c)) = ⊥
TellsLess (node.Dir listed) = Unit {0}

-- they differ, unless they tell less
abbrev pub AreApart : Node → Node → Type 0
AreApart old new = old ≡ new → TellsLess old

-- That change leads from what stood there to what stands there. A submodule is of another sort than a directory, though it shows as one.
pub data LeadsTo : Change → Option Node → Option Node → Type 0 where
  added : (c : Change) (new : Node) → c.how ≡ how.Added → kind_of new ≡ shows_as c.mode → LeadsTo c None (Some new)
  removed : (c : Change) (old : Node) → c.how ≡ how.Removed → kind_of old ≡ shows_as c.mode → LeadsTo c (Some old) None
  modified : (c : Change) (old new : Node) → c.how ≡ how.Modified → kind_of new ≡ shows_as c.mode → sort_shown old ≡ sort_shown new → AreApart old new
      → LeadsTo c (Some old) (Some new)
  retyped : (c : Change) (old new : Node) → c.how ≡ how.Retyped → kind_of new ≡ shows_as c.mode → (sort_shown old ≡ sort_shown new → IsDirectory old)
      → LeadsTo c (Some old) (Some new)

-- ---- over all paths

-- it is at the path, or above it and told by its top alone
abbrev pub Covers : Told → Path → Type 0
Covers t p = (t.0 ≡ p) ⊎ ((t.1.whole ≡ true) × ((n : Name) × ((below : Path) × (p ≡ t.0 ++ n ∷ below))))

abbrev pub IsCovered : List Told → Path → Type 0
IsCovered told p = (t : Told) × (Contains told t × Covers t p)

-- each that is told leads from the old tree to the new at its path, and where none covers a path both are alike there
pub record TellExactly (told : List Told) (old new : Tree) : Type 0 where
  pub each : (t : Told) → Contains told t → LeadsTo t.1 (old t.0) (new t.0)
  pub all : (p : Path) → IsCovered told p ⊎ (new p ≡ old p)

-- .. by which those that were told grew
pub record GrowsExactly (before after : List Told) (old new : Tree) : Type 0 where
  pub more : List Told
  pub grew : after ≡ before ++ more
  pub exact : TellExactly more old new

-- .. by some that lead so
pub record GrowsTruly (before after : List Told) (old new : Tree) : Type 0 where
  pub more : List Told
  pub grew : after ≡ before ++ more
  pub each : (t : Told) → Contains more t → LeadsTo t.1 (old t.0) (new t.0)

-- ---- in a repository

-- the repository has each blob under its own id alone (Git's object format), and each content of the files' under its own
pub record HasBlobs (R : Repository) (F : Stored) : Type 0 where
  pub own_ids : (id : Id) (bytes : List ℕ) → R.blob id ≡ Some bytes → IsIdOf id (frame word.Blob bytes)
  pub contents : (k : ℕ) (bytes : List ℕ) → HoldsContent F k bytes → HasObject R (frame word.Blob bytes)

-- There, so those that were told grew by what the files change of the commit's tree t.
abbrev pub TellsExactly : Repository → Id → Stored → List Told → List Told → Type 0
TellsExactly R t F before after = HasBlobs R F → GrowsExactly before after (Whole R t) (FilesShow R t F)

-- .. by some of that
abbrev pub TellsTruly : Repository → Id → Stored → List Told → List Told → Type 0
TellsTruly R t F before after = HasBlobs R F → GrowsTruly before after (Whole R t) (FilesShow R t F)
