-- What a table and its files keep of inode numbers, through each step of a mount.
use Rattle.std.specs.Prelude.{◌≡◌, ◌≢◌, ◌≤◌, ◌<◌, ◌⊎◌, ◌++◌, ◌∷◌, ℕ, List, [], Option, Some, None}
use Rattle.eden_model.specs.declared.id.Id.{Id}
use Rattle.eden_model.specs.declared.kind.Kind.TheVariants as kind
use Rattle.eden_model.specs.declared.kind.Origin.TheVariants as origin
use Rattle.eden_model.specs.declared.tree_entry.TreeEntry.{TreeEntry}
use Rattle.eden_model.specs.Backing.{AreShown, Gains}
use Rattle.eden_model.specs.Limits.{number_least, number_end}
use Rattle.eden_model.specs.Named.{AreRising}
use Rattle.eden_model.specs.Numbers.{Numbering}
use Rattle.eden_model.specs.Operations.{put, move}
use Rattle.eden_model.specs.Repository.{Repository, no_files}
use Rattle.eden_model.specs.Trees.{Name, Path}
use Rattle.eden_overlay_format.specs.Directory.{AreStorable}
use Rattle.eden_overlay.specs.Files.{Stored, with_file}
use Rattle.eden_overlay.specs.Held.{saved_at}
use Rattle.eden_tree.specs.Directory.{Row, Directory, child_of}
use Rattle.eden_tree.specs.Rows.{find_row}
use Rattle.eden_tree.specs.Paths.{row_at, stamped_along}
use Rattle.eden_coupling.specs.Chains.{Refused}
use Rattle.eden_coupling.specs.Changing.{changed, with_listing, MayMove, moved_in}
use Rattle.eden_coupling.specs.Kept.{IsTable, IsKept}
use Rattle.eden_coupling.specs.Laws.{owned}
use Rattle.eden_coupling.specs.Listings.{listing_of}
use Rattle.eden_coupling.specs.Loading.{IsAt, IsNew, LoadsObject, with_loaded}
use Rattle.eden_coupling.specs.Materialising.{Chain, owned_along}
use Rattle.eden_coupling.specs.NumberChanges.{IsBare}
use Rattle.eden_coupling.specs.NumberLoads.{AreBlank}
use Rattle.eden_coupling.specs.NumberNodes.{ListTrees}
use Rattle.eden_coupling.specs.NumberSaves.{IsSameOver}
use Rattle.eden_coupling.specs.Numberings.{in_files, entries_by, numbers, entry_at}
use Rattle.eden_coupling.specs.Shown.{IsFrom}
use Rattle.eden_coupling.specs.Ties.{IsAway}

-- No number is shown at two paths, and all are below the next one. None is saved under one that is yet to be given, and what
-- is saved for a directory lists the entries of its tree object.
pub record KeepsNumbers (R : Repository) (F : Stored) (x : Row) (next : ℕ) : Type 0 where
  pub shown : AreShown (numbers (in_files F) x) next
  pub blank : AreBlank (in_files F) next
  pub trees : ListTrees R (in_files F) x

-- the table z over the files G keeps that, and shows the same numbers as x over F
pub record SameNumbers (R : Repository) (F : Stored) (x : Row) (G : Stored) (z : Row) (next : ℕ) : Type 0 where
  pub keeps : KeepsNumbers R G z next
  pub same : (q : Path) → numbers (in_files G) z q ≡ numbers (in_files F) x q

-- .. and shows these and more
pub record MoreNumbers (R : Repository) (F : Stored) (x : Row) (next : ℕ) (G : Stored) (z : Row) (later : ℕ) : Type 0 where
  pub keeps : KeepsNumbers R G z later
  pub gains : Gains (numbers (in_files F) x) next (numbers (in_files G) z) later

-- .. and shows these, changed so
pub record ChangedNumbers (R : Repository) (F : Stored) (x : Row) (f : Numbering → Numbering) (z : Row) (next : ℕ) : Type 0 where
  pub keeps : KeepsNumbers R F z next
  pub changes : (q : Path) → numbers (in_files F) z q ≡ f (numbers (in_files F) x) q

-- ---- a table, as it is made

-- a root that isn't loaded, with nothing stored for it
abbrev pub FreshKeeps : Type 0
FreshKeeps = (R : Repository) (F : Stored) (x : Row) (next : ℕ) → x.number ≡ 1 → child_of x ≡ None → entries_by (in_files F) 1 x.origin ≡ None
    → AreBlank (in_files F) next → number_least ≤ next → next ≤ number_end → KeepsNumbers R F x next

-- ---- numbers that are given, and stamps

abbrev pub NextKeeps : Type 0
NextKeeps = (R : Repository) (F : Stored) (x : Row) (next later : ℕ) → KeepsNumbers R F x next → next ≤ later → later ≤ number_end → KeepsNumbers R F x later

abbrev pub StampsKeep : Type 0
StampsKeep = (R : Repository) (F : Stored) (x : Row) (next clock : ℕ) (p : Path) → KeepsNumbers R F x next → SameNumbers R F x F (stamped_along p clock x) next

-- ---- loads

-- from a tree object with no numbers saved: the table gains those that it gives
abbrev pub ObjectLoadKeeps : Type 0
ObjectLoadKeeps = (R : Repository) (F : Stored) (clock next : ℕ) (x : Row) (p : Path) (id : Id) (es : List TreeEntry) (z : Row) (later : ℕ)
    → KeepsNumbers R F x next → (at : IsAt p x (origin.Object id)) → saved_at F at.row.number id ≡ None → LoadsObject clock next x p es z later
    → later ≤ number_end → MoreNumbers R F x next F z later

-- with the numbers saved
abbrev pub SavedLoadKeeps : Type 0
SavedLoadKeeps = (R : Repository) (F : Stored) (clock next : ℕ) (x : Row) (p : Path) (id : Id) (d : Directory) → KeepsNumbers R F x next
    → (at : IsAt p x (origin.Object id)) → saved_at F at.row.number id ≡ Some (listing_of d) → IsNew clock d
    → SameNumbers R F x F (with_loaded p clock d x) next

-- .. which is what the tree object lists
abbrev pub SavedLoadFrom : Type 0
SavedLoadFrom = (R : Repository) (F : Stored) (clock next : ℕ) (x : Row) (p : Path) (id : Id) (d : Directory) → KeepsNumbers R F x next
    → (at : IsAt p x (origin.Object id)) → saved_at F at.row.number id ≡ Some (listing_of d) → IsNew clock d → IsFrom R no_files at.row d

-- .. so a kept table stays so, and shows the same
abbrev pub SavedLoadOver : Type 0
SavedLoadOver = (R : Repository) (F : Stored) (clock next : ℕ) (x : Row) (p : Path) (id : Id) (d : Directory) → IsTable x next → IsKept R F x next
    → KeepsNumbers R F x next → (at : IsAt p x (origin.Object id)) → saved_at F at.row.number id ≡ Some (listing_of d) → IsNew clock d
    → AreStorable (listing_of d) → IsSameOver R F F x (with_loaded p clock d x) next

-- ---- files

-- the files of loaded directories may hold anything
abbrev pub LoadedFilesKeep : Type 0
LoadedFilesKeep = (R : Repository) (F G : Stored) (x : Row) (next : ℕ) → KeepsNumbers R F x next → ((k : ℕ) → IsAway x k → G k ≡ F k)
    → SameNumbers R F x G x next

-- no directory that isn't loaded has the number
abbrev pub IsUnseen : Stored → Row → ℕ → Type 0
IsUnseen F x k = (p : Path) (z : Row) → entry_at (in_files F) x p ≡ Some z → child_of z ≡ None → z.kind ≡ kind.Dir → z.number ≢ k

-- so of a number that isn't shown, that of a file or link, and that of a loaded directory
abbrev pub NotShownUnseen : Type 0
NotShownUnseen = (F : Stored) (x : Row) (k : ℕ) → ((p : Path) → numbers (in_files F) x p ≢ Some k) → IsUnseen F x k

abbrev pub FileUnseen : Type 0
FileUnseen = (R : Repository) (F : Stored) (x : Row) (next : ℕ) (p : Path) (y : Row) → KeepsNumbers R F x next → row_at p x ≡ Some y → y.kind ≢ kind.Dir
    → IsUnseen F x y.number

abbrev pub LoadedUnseen : Type 0
LoadedUnseen = (R : Repository) (F : Stored) (x : Row) (next : ℕ) (p : Path) (y : Row) (d : Directory) → KeepsNumbers R F x next → row_at p x ≡ Some y
    → child_of y ≡ Some d → IsUnseen F x y.number

-- the state's number and those yet to be given aren't shown
abbrev pub OtherNotShown : Type 0
OtherNotShown = (R : Repository) (F : Stored) (x : Row) (next k : ℕ) → KeepsNumbers R F x next → (k ≡ 0) ⊎ (next ≤ k)
    → (p : Path) → numbers (in_files F) x p ≢ Some k

-- such a file may be stored, unless with numbers, or taken out
abbrev pub UnseenFileKeeps : Type 0
UnseenFileKeeps = (R : Repository) (F : Stored) (x : Row) (next k : ℕ) (w : Option (List ℕ)) → KeepsNumbers R F x next → IsUnseen F x k
    → ((id : Id) → saved_at (with_file F k w) k id ≡ None) → SameNumbers R F x (with_file F k w) x next

-- ---- a chain of directories

-- once it is stored, it may become the mount's own
abbrev pub ChainKeeps : Type 0
ChainKeeps = (R : Repository) (F : Stored) (x y : Row) (next : ℕ) (p : Path) (d : Directory) (G : Stored) → KeepsNumbers R F x next → row_at p x ≡ Some y
    → child_of y ≡ Some d → Chain F x p G → SameNumbers R F x G (owned (owned_along p x)) next

-- where one of the stores was refused, the table is as it was
abbrev pub RefusedKeeps : Type 0
RefusedKeeps = (R : Repository) (F : Stored) (x : Row) (next : ℕ) (p : Path) (G : Stored) → KeepsNumbers R F x next → Refused F x p G
    → SameNumbers R F x G x next

-- ---- changes, over the files that are stored for them

-- a loaded directory's mark
abbrev pub MarkKeeps : Type 0
MarkKeeps = (R : Repository) (F : Stored) (x y : Row) (next : ℕ) (p : Path) (d e : Directory) → KeepsNumbers R F x next → row_at p x ≡ Some y
    → child_of y ≡ Some d → e.rows ≡ d.rows → SameNumbers R F x F (with_listing p e x) next

-- unlink, rmdir: what goes has none below it
abbrev pub DropKeeps : Type 0
DropKeeps = (R : Repository) (F : Stored) (x y w : Row) (next : ℕ) (p : Path) (n : Name) (d : Directory) → KeepsNumbers R F x next → row_at p x ≡ Some y
    → child_of y ≡ Some d → AreRising (λ r. r.0) d.rows → find_row n d.rows ≡ Some w → IsBare (in_files F) w
    → ChangedNumbers R F x (λ S. put S (p ++ n ∷ []) None) (with_listing p (changed d n None) x) next

-- create, mkdir, symlink: what comes has a number that was given, and isn't shown yet
abbrev pub AddKeeps : Type 0
AddKeeps = (R : Repository) (F : Stored) (x y z : Row) (next : ℕ) (p : Path) (n : Name) (d : Directory) → KeepsNumbers R F x next → row_at p x ≡ Some y
    → child_of y ≡ Some d → AreRising (λ r. r.0) d.rows → find_row n d.rows ≡ None → z.origin ≡ origin.Own → IsBare (in_files F) z
    → number_least ≤ z.number → z.number < next → ((q : Path) → numbers (in_files F) x q ≢ Some z.number)
    → ChangedNumbers R F x (λ S. put S (p ++ n ∷ []) (Some z.number)) (with_listing p (changed d n (Some z)) x) next

-- write, truncate, setexec: a file in the place of another, of the same number
abbrev pub ReplaceKeeps : Type 0
ReplaceKeeps = (R : Repository) (F : Stored) (x y z w : Row) (next : ℕ) (p : Path) (n : Name) (d : Directory) → KeepsNumbers R F x next → row_at p x ≡ Some y
    → child_of y ≡ Some d → AreRising (λ r. r.0) d.rows → find_row n d.rows ≡ Some w → z.number ≡ w.number → IsBare (in_files F) w → IsBare (in_files F) z
    → (z.origin ≡ origin.Own) ⊎ (z.origin ≡ w.origin) → child_of w ≡ None → SameNumbers R F x F (with_listing p (changed d n (Some z)) x) next

-- rename: what moves takes its numbers along
abbrev pub MoveKeeps : Type 0
MoveKeeps = (R : Repository) (F : Stored) (x : Row) (next : ℕ) (p : Path) (n : Name) (q : Path) (m : Name) → (may : MayMove x p n q m) → KeepsNumbers R F x next
    → AreRising (λ e. e.0) may.source.rows → AreRising (λ e. e.0) may.target.rows
    → ChangedNumbers R F x (λ S. move S (p ++ n ∷ []) (q ++ m ∷ [])) (moved_in x p n q m may) next
