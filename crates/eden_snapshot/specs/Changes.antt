-- How what is shown differs from a commit's tree.
use Rattle.std.specs.Prelude.{◌≡◌, ◌⊎◌, ℕ, Bool, true, false, ◌==◌, ◌&&◌, List, [], ◌∷◌, ◌++◌, Option, Some, None, IsSome, if◌then◌else◌}
use Rattle.std.specs.Option.{is_some}
use Rattle.eden_model.specs.declared.id.Id.{Id}
use Rattle.eden_model.specs.declared.kind.Kind.{Kind}
use Rattle.eden_model.specs.declared.kind.Kind.TheVariants as kind
use Rattle.eden_model.specs.declared.kind.Mode.{Mode}
use Rattle.eden_model.specs.declared.kind.Mode.TheVariants as mode
use Rattle.eden_model.specs.declared.kind.Origin.{Origin}
use Rattle.eden_model.specs.declared.kind.Origin.TheVariants as origin
use Rattle.eden_model.specs.declared.tree_entry.TreeEntry.{TreeEntry}
use Rattle.eden_model.specs.Keys.{same_id}
use Rattle.eden_model.specs.Repository.{Repository}
use Rattle.eden_model.specs.Trees.{Name, Path}
use Rattle.eden_object.specs.declared.word.Word.TheVariants as word
use Rattle.eden_object.specs.Frames.{frame}
use Rattle.eden_overlay_format.specs.declared.stored_entry.StoredEntry.{StoredEntry}
use Rattle.eden_overlay.specs.Files.{Stored}
use Rattle.eden_overlay.specs.Held.{HoldsContent, HoldsEntries, root_file}
use Rattle.eden_snapshot.specs.Commits.{Place}
use Rattle.eden_snapshot.specs.Rows.{Rows, AreRows}
use Rattle.eden_snapshot.specs.Written.{IsIdOf, mode_of}
use Rattle.eden_snapshot.specs.declared.rows.Row.{Row}
use Rattle.eden_snapshot.specs.declared.change.Change.{Change}
use Rattle.eden_snapshot.specs.declared.change.How.TheVariants as how

-- What is shown under a name: its mode, and the id of its object. It has none to compare where it is looked into, or stands for
-- the commit's.
abbrev pub Stand : Type 0
Stand = Mode × Option Id

abbrev pub number_of : Mode → ℕ
number_of mode.File = 0
number_of mode.Exec = 1
number_of mode.Link = 2
number_of mode.Dir = 3
number_of mode.Gitlink = 4

-- files, links, directories, submodules
abbrev pub sort_of : Mode → ℕ
sort_of mode.File = 0
sort_of mode.Exec = 0
sort_of mode.Link = 1
sort_of mode.Dir = 2
sort_of mode.Gitlink = 3

-- it may be that object
abbrev pub may_be : Id → Option Id → Bool
may_be id None = true
may_be id (Some other) = same_id id other

-- what stands there is what stood there
abbrev pub is_same : Place → Stand → Bool
is_same place stand = (number_of place.0 == number_of stand.0) && may_be place.1 stand.1

abbrev pub is_tree : Mode → Bool
is_tree mode.File = false
is_tree mode.Exec = false
is_tree mode.Link = false
is_tree mode.Dir = true
is_tree mode.Gitlink = false

-- a tree is there that isn't looked into, or was
abbrev pub is_whole : Bool → Stand → Bool
is_whole was_tree (mode.File, id) = was_tree
is_whole was_tree (mode.Exec, id) = was_tree
is_whole was_tree (mode.Link, id) = was_tree
is_whole was_tree (mode.Dir, id) = is_some id
is_whole was_tree (mode.Gitlink, id) = was_tree

-- how what stands there differs from what the commit has there, or that it doesn't
abbrev pub change_of : Option Place → Option Stand → Option Change
change_of None None = None
change_of None (Some stand) = Some (record { how = how.Added; mode = stand.0; whole = is_whole false stand })
change_of (Some place) None = Some (record { how = how.Removed; mode = place.0; whole = is_tree place.0 })
change_of (Some place) (Some stand) =
    if sort_of place.0 == sort_of stand.0
    then (if is_same place stand then None else Some (record { how = how.Modified; mode = stand.0; whole = is_whole (is_tree place.0) stand }))
    else Some (record { how = how.Retyped; mode = stand.0; whole = is_whole (is_tree place.0) stand })

-- ---- path by path

-- the id is that of a blob of the content of that number
abbrev pub IsBlobOf : Stored → ℕ → Id → Type 0
IsBlobOf F k id = (bytes : List ℕ) × (HoldsContent F k bytes × IsIdOf id (frame word.Blob bytes))

-- an own file or link stands as its blob
abbrev pub StandsAsBlob : Stored → ℕ → Mode → Stand → Type 0
StandsAsBlob F k m stand = (id : Id) × ((stand ≡ (m, Some id)) × IsBlobOf F k id)

abbrev pub OwnStandsAs : Stored → ℕ → Kind → Stand → Type 0
OwnStandsAs F k kind.File stand = StandsAsBlob F k mode.File stand
OwnStandsAs F k kind.Exec stand = StandsAsBlob F k mode.Exec stand
OwnStandsAs F k kind.Link stand = StandsAsBlob F k mode.Link stand
OwnStandsAs F k kind.Dir stand = stand ≡ (mode.Dir, None)

-- what an entry stands as: an object, what is the mount's own, or a submodule
abbrev pub StandsBy : Stored → ℕ → Kind → Origin → Stand → Type 0
StandsBy F k kind (origin.Object id) stand = stand ≡ (mode_of kind, Some id)
StandsBy F k kind origin.Own stand = OwnStandsAs F k kind stand
StandsBy F k kind origin.Empty stand = stand ≡ (mode.Gitlink, None)

abbrev pub StandsAs : Stored → Option StoredEntry → Option Stand → Type 0
StandsAs F None None = Unit {0}
StandsAs F None (Some stand) = ⊥
StandsAs F (Some e) None = ⊥
StandsAs F (Some e) (Some stand) = StandsBy F e.number e.kind e.origin stand

-- the number of an own directory, which is looked into
abbrev pub own_directory_by : ℕ → Kind → Origin → Option ℕ
own_directory_by k kind (origin.Object id) = None
own_directory_by k kind origin.Empty = None
own_directory_by k kind.File origin.Own = None
own_directory_by k kind.Exec origin.Own = None
own_directory_by k kind.Link origin.Own = None
own_directory_by k kind.Dir origin.Own = Some k

abbrev pub own_directory : Option StoredEntry → Option ℕ
own_directory None = None
own_directory (Some e) = own_directory_by e.number e.kind e.origin

-- the entries that the commit has below a place: those of the tree there, and none where no tree is
abbrev pub HasInside : Repository → Option Place → List TreeEntry → Type 0
HasInside R None es = es ≡ []
HasInside R (Some (mode.File, id)) es = es ≡ []
HasInside R (Some (mode.Exec, id)) es = es ≡ []
HasInside R (Some (mode.Link, id)) es = es ≡ []
HasInside R (Some (mode.Dir, id)) es = R.tree id ≡ Some es
HasInside R (Some (mode.Gitlink, id)) es = es ≡ []

-- a change at a path
abbrev pub Told : Type 0
Told = Path × Change

abbrev pub told_of : Path → Option Change → List Told
told_of path None = []
told_of path (Some change) = (path, change) ∷ []

-- Below the directory at `front`, these rows differ by these changes, each told behind those of the names before it and before
-- those inside. An own directory is looked into; what else is there is told by its top alone.
pub data Differ (F : Stored) (R : Repository) : Path → Rows → List Told → Type 0 where
  none : (front : Path) → Differ F R front [] []
  alone : (front : Path) (n : Name) (row : Row) (stand : Option Stand) (rows : Rows) (more : List Told)
      → own_directory row.new ≡ None → StandsAs F row.new stand
      → Differ F R front rows more → Differ F R front ((n, row) ∷ rows) (told_of (front ++ n ∷ []) (change_of row.old stand) ++ more)
  within : (front : Path) (n : Name) (row : Row) (stand : Option Stand) (k : ℕ) (new : List StoredEntry) (old : List TreeEntry) (inside : Rows)
      (below : List Told) (rows : Rows) (more : List Told)
      → own_directory row.new ≡ Some k → StandsAs F row.new stand → HoldsEntries F k new → HasInside R row.old old → AreRows old new inside
      → Differ F R (front ++ n ∷ []) inside below
      → Differ F R front rows more
      → Differ F R front ((n, row) ∷ rows) ((told_of (front ++ n ∷ []) (change_of row.old stand) ++ below) ++ more)

-- .. by which the changes that were told grew
pub record Tells (F : Stored) (R : Repository) (front : Path) (rows : Rows) (old new : List Told) : Type 0 where
  pub more : List Told
  pub grew : new ≡ old ++ more
  pub differ : Differ F R front rows more

-- .. those of the own directory of that number, where the commit has these entries at its path
pub record TellsDirectory (F : Stored) (R : Repository) (front : Path) (k : ℕ) (before : List TreeEntry) (old new : List Told) : Type 0 where
  pub after : List StoredEntry
  pub held : HoldsEntries F k after
  pub rows : Rows
  pub are : AreRows before after rows
  pub tells : Tells F R front rows old new

-- .. where it has that place there
abbrev pub TellsInside : Stored → Repository → Path → ℕ → Option Place → List Told → List Told → Type 0
TellsInside F R front k place old new = (before : List TreeEntry) × (HasInside R place before × TellsDirectory F R front k before old new)

-- .. where there is such a directory
abbrev pub TellsBelow : Stored → Repository → Path → Option ℕ → Option Place → List Told → List Told → Type 0
TellsBelow F R front None place old new = new ≡ old
TellsBelow F R front (Some k) place old new = TellsInside F R front k place old new

-- .. and those of all that is shown over the commit whose tree is t
pub data TellsAll (F : Stored) (R : Repository) (t : Id) : List Told → List Told → Type 0 where
  untouched : (old : List Told) → root_file F ≡ None → TellsAll F R t old old
  own : (before : List TreeEntry) (old new : List Told) → IsSome (root_file F) → R.tree t ≡ Some before
      → TellsDirectory F R [] 1 before old new → TellsAll F R t old new

-- ---- as far as they were told

-- The changes of these rows that were told before an error came: all of some names in turn, and of the next its own, or also some below it.
pub data DifferSoFar (F : Stored) (R : Repository) : Path → Rows → List Told → Type 0 where
  stopped : (front : Path) (rows : Rows) → DifferSoFar F R front rows []
  passed : (front : Path) (n : Name) (row : Row) (rows : Rows) (first more : List Told)
      → Differ F R front ((n, row) ∷ []) first → DifferSoFar F R front rows more → DifferSoFar F R front ((n, row) ∷ rows) (first ++ more)
  begun : (front : Path) (n : Name) (row : Row) (stand : Option Stand) (k : ℕ) (rows : Rows)
      → own_directory row.new ≡ Some k → StandsAs F row.new stand
      → DifferSoFar F R front ((n, row) ∷ rows) (told_of (front ++ n ∷ []) (change_of row.old stand))
  entered : (front : Path) (n : Name) (row : Row) (stand : Option Stand) (k : ℕ) (new : List StoredEntry) (old : List TreeEntry) (within rows : Rows)
      (below : List Told)
      → own_directory row.new ≡ Some k → StandsAs F row.new stand → HoldsEntries F k new → HasInside R row.old old → AreRows old new within
      → DifferSoFar F R (front ++ n ∷ []) within below
      → DifferSoFar F R front ((n, row) ∷ rows) (told_of (front ++ n ∷ []) (change_of row.old stand) ++ below)

-- .. by which the changes that were told grew
pub record TellsSoFar (F : Stored) (R : Repository) (front : Path) (rows : Rows) (old new : List Told) : Type 0 where
  pub more : List Told
  pub grew : new ≡ old ++ more
  pub differ : DifferSoFar F R front rows more

-- .. under a name, whatever stands behind it
abbrev pub TellsNameSoFar : Stored → Repository → Path → Name × Row → List Told → List Told → Type 0
TellsNameSoFar F R front named old new = (rest : Rows) → TellsSoFar F R front (named ∷ rest) old new

-- .. some of those of the own directory of that number
pub record TellsSome (F : Stored) (R : Repository) (front : Path) (k : ℕ) (before : List TreeEntry) (old new : List Told) : Type 0 where
  pub after : List StoredEntry
  pub held : HoldsEntries F k after
  pub rows : Rows
  pub are : AreRows before after rows
  pub tells : TellsSoFar F R front rows old new

-- .. or none
abbrev pub TellsDirectorySoFar : Stored → Repository → Path → ℕ → List TreeEntry → List Told → List Told → Type 0
TellsDirectorySoFar F R front k before old new = (new ≡ old) ⊎ TellsSome F R front k before old new

abbrev pub TellsInsideSoFar : Stored → Repository → Path → ℕ → Option Place → List Told → List Told → Type 0
TellsInsideSoFar F R front k place old new = (new ≡ old) ⊎ ((before : List TreeEntry) × (HasInside R place before × TellsSome F R front k before old new))

abbrev pub TellsBelowSoFar : Stored → Repository → Path → Option ℕ → Option Place → List Told → List Told → Type 0
TellsBelowSoFar F R front None place old new = ⊥
TellsBelowSoFar F R front (Some k) place old new = TellsInsideSoFar F R front k place old new

abbrev pub TellsAllSoFar : Stored → Repository → Id → List Told → List Told → Type 0
TellsAllSoFar F R t old new =
    (new ≡ old) ⊎ (IsSome (root_file F) × ((before : List TreeEntry) × ((R.tree t ≡ Some before) × TellsSome F R [] 1 before old new)))
