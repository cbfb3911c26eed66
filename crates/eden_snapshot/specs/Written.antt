-- What is written of an overlay's directories: the objects that are handed in, the entries of the trees, and what is left out.
use Rattle.std.specs.Prelude.{◌≡◌, ◌≢◌, ℕ, List, [], ◌∷◌, ◌++◌, Option, Some, None, IsSome}
use Rattle.sha1.specs.Sha1.{sha1}
use Rattle.eden_model.specs.declared.id.Id.{Id}
use Rattle.eden_model.specs.declared.kind.Kind.{Kind}
use Rattle.eden_model.specs.declared.kind.Kind.TheVariants as kind
use Rattle.eden_model.specs.declared.kind.Mode.{Mode}
use Rattle.eden_model.specs.declared.kind.Mode.TheVariants as mode
use Rattle.eden_model.specs.declared.kind.Origin.TheVariants as origin
use Rattle.eden_model.specs.declared.tree_entry.TreeEntry.{TreeEntry}
use Rattle.eden_model.specs.Trees.{Path}
use Rattle.eden_object.specs.declared.word.Word.TheVariants as word
use Rattle.eden_object.specs.Encoding.{IsEncoded}
use Rattle.eden_object.specs.Frames.{frame}
use Rattle.eden_overlay_format.specs.declared.stored_entry.StoredEntry.{StoredEntry}
use Rattle.eden_overlay.specs.Files.{Stored}
use Rattle.eden_overlay.specs.Held.{HoldsContent, HoldsEntries, root_file}
use Rattle.eden_snapshot.specs.declared.left_out.LeftOut.TheVariants as left
use Rattle.eden_snapshot.specs.Sinks.{Handed, Told, Filled, grown, with_object, with_omission}

-- how Git tells that kind
abbrev pub mode_of : Kind → Mode
mode_of kind.File = mode.File
mode_of kind.Exec = mode.Exec
mode_of kind.Link = mode.Link
mode_of kind.Dir = mode.Dir

-- the entry under its name, with that id
abbrev pub entry_with : StoredEntry → Id → TreeEntry
entry_with e id = record { mode = mode_of e.kind; name = e.name; id = id }

-- .. as a submodule's
abbrev pub submodule_with : StoredEntry → Id → TreeEntry
submodule_with e id = record { mode = mode.Gitlink; name = e.name; id = id }

-- .. or none, where nothing is written of it
abbrev pub tree_entries_of : StoredEntry → Option (Mode × Id) → List TreeEntry
tree_entries_of e None = []
tree_entries_of e (Some stands) = record { mode = stands.0; name = e.name; id = stands.1 } ∷ []

-- the id of the framed object
abbrev pub IsIdOf : Id → List ℕ → Type 0
IsIdOf id framed = id.bytes ≡ sha1 framed

-- the commits of submodules, by their paths
abbrev pub Known : Type 0
Known = Path → Option Id

-- the path of the entry
abbrev pub path_of : Path → StoredEntry → Path
path_of front e = front ++ e.name ∷ []

-- The entries of the directory at `front` are written as these of a tree. For that these objects are handed in, and these
-- omissions told, in this order. K has the commit's submodules by their paths.
pub data Written (F : Stored) (K : Known) : Path → List StoredEntry → List TreeEntry → Handed → Told → Type 0 where
  nothing : (front : Path) → Written F K front [] [] [] []
  -- what is an object keeps its id
  object : (front : Path) (e : StoredEntry) (id : Id) (es : List StoredEntry) (ts : List TreeEntry) (handed : Handed) (told : Told)
      → e.origin ≡ origin.Object id
      → Written F K front es ts handed told → Written F K front (e ∷ es) (entry_with e id ∷ ts) handed told
  -- the content of an own file or link becomes a blob
  content : (front : Path) (e : StoredEntry) (bytes : List ℕ) (id : Id) (es : List StoredEntry) (ts : List TreeEntry) (handed : Handed) (told : Told)
      → e.origin ≡ origin.Own → e.kind ≢ kind.Dir → HoldsContent F e.number bytes → IsIdOf id (frame word.Blob bytes)
      → Written F K front es ts handed told → Written F K front (e ∷ es) (entry_with e id ∷ ts) (frame word.Blob bytes ∷ handed) told
  -- an own directory becomes a tree, whose own contents are handed in before it
  directory : (front : Path) (e : StoredEntry) (inside : List StoredEntry) (first : TreeEntry) (others : List TreeEntry) (below : Handed) (found : Told)
      (framed : List ℕ) (id : Id) (es : List StoredEntry) (ts : List TreeEntry) (handed : Handed) (told : Told)
      → e.origin ≡ origin.Own → e.kind ≡ kind.Dir → HoldsEntries F e.number inside → Written F K (path_of front e) inside (first ∷ others) below found
      → IsEncoded (first ∷ others) framed → IsIdOf id framed
      → Written F K front es ts handed told → Written F K front (e ∷ es) (entry_with e id ∷ ts) (below ++ framed ∷ handed) (found ++ told)
  -- one of which no entry is written is left out
  bare : (front : Path) (e : StoredEntry) (inside es : List StoredEntry) (ts : List TreeEntry) (below handed : Handed) (found told : Told)
      → e.origin ≡ origin.Own → e.kind ≡ kind.Dir → HoldsEntries F e.number inside → Written F K (path_of front e) inside [] below found
      → Written F K front es ts handed told → Written F K front (e ∷ es) ts (below ++ handed) (found ++ (path_of front e, left.Empty) ∷ told)
  -- a submodule has the commit's id, where that has one at the path
  submodule : (front : Path) (e : StoredEntry) (id : Id) (es : List StoredEntry) (ts : List TreeEntry) (handed : Handed) (told : Told)
      → e.origin ≡ origin.Empty → K (path_of front e) ≡ Some id
      → Written F K front es ts handed told → Written F K front (e ∷ es) (submodule_with e id ∷ ts) handed told
  -- .. and is left out where it has none
  unknown : (front : Path) (e : StoredEntry) (es : List StoredEntry) (ts : List TreeEntry) (handed : Handed) (told : Told)
      → e.origin ≡ origin.Empty → K (path_of front e) ≡ None
      → Written F K front es ts handed told → Written F K front (e ∷ es) ts handed ((path_of front e, left.Submodule) ∷ told)

-- so are these entries, by which the sink has more
pub record WritesEntries (F : Stored) (K : Known) (front : Path) (es : List StoredEntry) (ts : List TreeEntry) (old new : Filled) : Type 0 where
  pub handed : Handed
  pub told : Told
  pub grew : new ≡ grown old handed told
  pub written : Written F K front es ts handed told

-- .. and the entries of that directory
pub record WritesDirectory (F : Stored) (K : Known) (front : Path) (k : ℕ) (ts : List TreeEntry) (old new : Filled) : Type 0 where
  pub inside : List StoredEntry
  pub held : HoldsEntries F k inside
  pub writes : WritesEntries F K front inside ts old new

-- ---- one object that is handed in

-- the tree of these entries
pub record HandedTree (ts : List TreeEntry) (id : Id) (old new : Filled) : Type 0 where
  pub framed : List ℕ
  pub encoded : IsEncoded ts framed
  pub digest : IsIdOf id framed
  pub grew : new ≡ with_object old framed

-- the blob of the content of that number
pub record HandedContent (F : Stored) (k : ℕ) (id : Id) (old new : Filled) : Type 0 where
  pub bytes : List ℕ
  pub held : HoldsContent F k bytes
  pub digest : IsIdOf id (frame word.Blob bytes)
  pub grew : new ≡ with_object old (frame word.Blob bytes)

-- ---- a directory

-- The own directory of that number and path is written so: as a tree, or where no entry of it is written not at all.
abbrev pub StandsFor : Stored → Known → Path → ℕ → Option (Mode × Id) → Filled → Filled → Type 0
StandsFor F K path k (Some stands) old new =
    (stands.0 ≡ mode.Dir) × ((ts : List TreeEntry) × ((mid : Filled) × (WritesDirectory F K path k ts old mid × (ts ≢ []) × HandedTree ts stands.1 mid new)))
StandsFor F K path k None old new = (mid : Filled) × (WritesDirectory F K path k [] old mid × (new ≡ with_omission mid path left.Empty))

-- .. and what stands at the path without contents so: as the commit's submodule there, or not at all
abbrev pub IsSubmodule : Known → Path → Option (Mode × Id) → Filled → Filled → Type 0
IsSubmodule K path (Some stands) old new = (stands.0 ≡ mode.Gitlink) × (K path ≡ Some stands.1) × (new ≡ old)
IsSubmodule K path None old new = (K path ≡ None) × (new ≡ with_omission old path left.Submodule)

-- ---- the whole

-- The whole is written as the tree of that id. A root that isn't the mount's own is the commit's tree; another is handed in
-- last, though it be empty.
pub data WritesTop (F : Stored) (K : Known) (root : Id) : Id → Filled → Filled → Type 0 where
  untouched : (has : Filled) → root_file F ≡ None → WritesTop F K root root has has
  own : (ts : List TreeEntry) (framed : List ℕ) (id : Id) (old below : Filled) → IsSome (root_file F) → WritesDirectory F K [] 1 ts old below
      → IsEncoded ts framed → IsIdOf id framed → WritesTop F K root id old (with_object below framed)
