-- What a change of the table does to the numbers that are shown: the same change as that of the request.
use Rattle.std.specs.Prelude.{◌≡◌, ◌≢◌, ◌++◌, ℕ, [], ◌∷◌, Option, Some, None}
use Rattle.eden_model.specs.Named.{AreRising}
use Rattle.eden_model.specs.Operations.{put, move}
use Rattle.eden_model.specs.Paths.{behind_of}
use Rattle.eden_model.specs.Trees.{Name, Path, grafted}
use Rattle.eden_tree.specs.Directory.{Row, Directory, child_of}
use Rattle.eden_tree.specs.Rows.{find_row}
use Rattle.eden_tree.specs.Paths.{row_at, edit_row}
use Rattle.eden_coupling.specs.Changing.{changed, with_listing, MayMove, moved_in}
use Rattle.eden_coupling.specs.NumberSaves.{SameElsewhere}
use Rattle.eden_coupling.specs.Numberings.{NumberFiles, entry_below, numbers, numbers_from}

-- no entry stands below it, in memory or stored
abbrev pub IsBare : NumberFiles → Row → Type 0
IsBare M w = (m : Name) → entry_below M w m ≡ None

-- this under a name of a loaded directory: its numbers stand at and below the name, and all else is as before
abbrev pub ChangeGrafts : Type 0
ChangeGrafts = (M : NumberFiles) (p : Path) (n : Name) (o : Option Row) (x y : Row) (d : Directory) (q : Path) → row_at p x ≡ Some y → child_of y ≡ Some d
    → AreRising (λ r. r.0) d.rows
    → numbers M (with_listing p (changed d n o) x) q ≡ grafted (behind_of (p ++ n ∷ []) q) (numbers_from M o) (numbers M x q)

-- unlink, rmdir: what goes takes its number away
abbrev pub DropIsEdit : Type 0
DropIsEdit = (M : NumberFiles) (p : Path) (n : Name) (x y w : Row) (d : Directory) (q : Path) → row_at p x ≡ Some y → child_of y ≡ Some d
    → AreRising (λ r. r.0) d.rows → find_row n d.rows ≡ Some w → IsBare M w
    → numbers M (with_listing p (changed d n None) x) q ≡ put (numbers M x) (p ++ n ∷ []) None q

-- create, mkdir, symlink: what is made has its number
abbrev pub PutIsEdit : Type 0
PutIsEdit = (M : NumberFiles) (p : Path) (n : Name) (x y z : Row) (d : Directory) (q : Path) → row_at p x ≡ Some y → child_of y ≡ Some d
    → AreRising (λ r. r.0) d.rows → find_row n d.rows ≡ None → IsBare M z
    → numbers M (with_listing p (changed d n (Some z)) x) q ≡ put (numbers M x) (p ++ n ∷ []) (Some z.number) q

-- rename: what moves takes its numbers along, in place of what stood there
abbrev pub MoveIsEdit : Type 0
MoveIsEdit = (M : NumberFiles) (x : Row) (p : Path) (n : Name) (q : Path) (m : Name) (r : Path) → (may : MayMove x p n q m)
    → AreRising (λ e. e.0) may.source.rows → AreRising (λ e. e.0) may.target.rows
    → numbers M (moved_in x p n q m may) r ≡ move (numbers M x) (p ++ n ∷ []) (q ++ m ∷ []) r

-- write, truncate, setexec: an entry with none below in place of another, of the same number
abbrev pub BareSame : Type 0
BareSame = (M : NumberFiles) (p : Path) (f : Row → Row) (x y : Row) (q : Path) → row_at p x ≡ Some y → IsBare M y → IsBare M (f y)
    → (f y).number ≡ y.number → numbers M (edit_row p f x) q ≡ numbers M x q

-- the file of a number that isn't shown may be stored or taken out
abbrev pub UnseenSame : Type 0
UnseenSame = (M K : NumberFiles) (x : Row) (k : ℕ) (q : Path) → ((p : Path) → numbers M x p ≢ Some k) → SameElsewhere M K k
    → numbers K x q ≡ numbers M x q
