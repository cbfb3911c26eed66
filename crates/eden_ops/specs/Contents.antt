-- The content of a file or a link, and what is made of it.
use Rattle.std.specs.Prelude.{◌≡◌, ◌≢◌, ◌≤◌, ◌<◌, ◌+◌, ℕ, List, length, Some, None}
use Rattle.eden_model.specs.declared.id.Id.{Id}
use Rattle.eden_model.specs.declared.kind.Kind.TheVariants as kind
use Rattle.eden_model.specs.declared.kind.Origin.{Origin}
use Rattle.eden_model.specs.declared.world.World.{Ghosts}
use Rattle.eden_model.specs.Limits.{most_file}
use Rattle.eden_model.specs.Operations.{resized, written}
use Rattle.eden_model.specs.Repository.{source_of, content_with}
use Rattle.eden_model.specs.Trees.{Path}
use Rattle.eden_overlay.specs.declared.files.Files.{Ghosts as Files}
use Rattle.eden_overlay.specs.Files.{part}
use Rattle.eden_overlay.specs.Held.{own_files}
use Rattle.eden_tree.specs.Directory.{Row, child_of}
use Rattle.eden_tree.specs.Paths.{row_at}
use Rattle.eden_inode.specs.Tables.{Table}
use Rattle.eden_ops.specs.declared.refill.Form.{Form}
use Rattle.eden_ops.specs.declared.refill.Form.TheVariants as form

-- the entry at the path is a file or a link of that origin
pub record HasContent (p : Path) (x : Row) (o : Origin) : Type 0 where
  pub row : Row
  pub there : row_at p x ≡ Some row
  pub kind : row.kind ≢ kind.Dir
  pub origin : row.origin ≡ o

-- the entry at the path is this one, a file or a link that isn't loaded
pub record IsFileAt (p : Path) (x y : Row) : Type 0 where
  pub there : row_at p x ≡ Some y
  pub unloaded : child_of y ≡ None
  pub file : y.kind ≢ kind.Dir

-- what a content becomes
abbrev pub made : Form → List ℕ → List ℕ
made (form.Written offset bytes) content = written offset bytes.now content
made (form.Resized size) content = resized size content

-- if the outside is honest these are bytes of that blob, from an offset on and at most this many
abbrev pub IsPartOfBlob : {W : Type 0} → Ghosts W → Id → ℕ → ℕ → List ℕ → Type 0
IsPartOfBlob w id offset count bytes = (content : List ℕ) × ((w.honest → w.repository.blob id ≡ Some content)
    × ((length content ≤ most_file) × (bytes ≡ part offset count content)))

-- some bytes are written, and up to the longest content at most
abbrev pub Fits : Form → Type 0
Fits (form.Written offset bytes) = (0 < length bytes.now) × (offset + length bytes.now ≤ most_file)
Fits (form.Resized size) = size ≤ most_file

module _ {W F : Type 0} (w : Ghosts W) (f : Files F W) where
  -- the content that the entry at the path shows, if the outside is honest
  pub record IsContent (p : Path) (t : Table F) (content : List ℕ) : Type 0 where
    pub shown : w.honest → (y : Row) → row_at p t.root ≡ Some y
        → content_with w.repository (own_files (f.stored t.files)) (source_of y.number y.origin) ≡ Some content
    pub short : length content ≤ most_file

  -- these are bytes of that content, from an offset on and at most this many
  abbrev pub IsPart : Path → Table F → ℕ → ℕ → List ℕ → Type 0
  IsPart p t offset count bytes = w.honest → (y : Row) → row_at p t.root ≡ Some y
      → (content : List ℕ) × ((content_with w.repository (own_files (f.stored t.files)) (source_of y.number y.origin) ≡ Some content)
      × ((length content ≤ most_file) × (bytes ≡ part offset count content)))

  -- the length of the content that the entry at the path shows, if the outside is honest
  abbrev pub HasLength : Path → Table F → ℕ → Type 0
  HasLength p t n = w.honest → (y : Row) → row_at p t.root ≡ Some y
      → (content : List ℕ) × ((content_with w.repository (own_files (f.stored t.files)) (source_of y.number y.origin) ≡ Some content) × (n ≡ length content))
