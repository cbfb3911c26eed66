-- What a directory that is loaded does to the numbers that are shown.
use Rattle.std.specs.Prelude.{◌≡◌, ◌≢◌, ◌≤◌, ℕ, List, Option, Some, None, Contains}
use Rattle.eden_model.specs.declared.id.Id.{Id}
use Rattle.eden_model.specs.declared.kind.Kind.TheVariants as kind
use Rattle.eden_model.specs.declared.kind.Origin.TheVariants as origin
use Rattle.eden_model.specs.declared.tree_entry.TreeEntry.{TreeEntry}
use Rattle.eden_model.specs.Backing.{AreShown, Gains}
use Rattle.eden_model.specs.Limits.{number_end}
use Rattle.eden_model.specs.Numbers.{AreOnce}
use Rattle.eden_model.specs.Repository.{Repository, no_files}
use Rattle.eden_model.specs.Trees.{Path}
use Rattle.eden_overlay_format.specs.Directory.{AreStorable}
use Rattle.eden_overlay_format.specs.declared.stored_entry.StoredEntry.{StoredEntry}
use Rattle.eden_overlay.specs.Files.{Stored}
use Rattle.eden_overlay.specs.Soundness.{Names, IsLive}
use Rattle.eden_tree.specs.Directory.{Row, Directory}
use Rattle.eden_coupling.specs.Kept.{IsTable, IsKept}
use Rattle.eden_coupling.specs.Listings.{listing_of}
use Rattle.eden_coupling.specs.Loading.{IsAt, IsNew, LoadsObject, with_loaded}
use Rattle.eden_coupling.specs.Numberings.{NumberFiles, number_files, numbers}
use Rattle.eden_coupling.specs.Shown.{IsFrom}
use Rattle.eden_coupling.specs.Ties.{Ties}

-- no numbers are saved for a directory whose number is yet to be given
abbrev pub AreBlank : NumberFiles → ℕ → Type 0
AreBlank M next = (k : ℕ) (id : Id) → next ≤ k → M.saved k id ≡ None

-- ---- from a tree object

-- none of its numbers saved: the table gains the numbers given, each once
abbrev pub ObjectLoadGains : Type 0
ObjectLoadGains = (M : NumberFiles) (clock next : ℕ) (x : Row) (p : Path) (id : Id) (es : List TreeEntry) (z : Row) (later : ℕ)
    → (at : IsAt p x (origin.Object id)) → M.saved at.row.number id ≡ None → AreBlank M next → AreShown (numbers M x) next
    → LoadsObject clock next x p es z later → later ≤ number_end → Gains (numbers M x) next (numbers M z) later

-- with its numbers saved: the same numbers are shown
abbrev pub SavedLoadSame : Type 0
SavedLoadSame = (M : NumberFiles) (clock : ℕ) (x : Row) (p : Path) (id : Id) (d : Directory) (q : Path)
    → (at : IsAt p x (origin.Object id)) → M.saved at.row.number id ≡ Some (listing_of d) → IsNew clock d
    → numbers M (with_loaded p clock d x) q ≡ numbers M x q

-- ---- and the table that is tied

-- what a live directory of the full files names is shown
abbrev pub NamesAreShown : Type 0
NamesAreShown = (F full : Stored) (saved : ℕ → Id → Option (List StoredEntry)) (x : Row) (next : ℕ) → x.kind ≡ kind.Dir → Ties F full x next
    → (c : ℕ) (e : StoredEntry) → IsLive full c → Names full c e → (q : Path) × (numbers (number_files F saved) x q ≡ Some e.number)

-- so where each number is shown once, no number saved for a tree object's directory is named: it may be loaded with them
abbrev pub SavedAreUnnamed : Type 0
SavedAreUnnamed = (F full : Stored) (saved : ℕ → Id → Option (List StoredEntry)) (x : Row) (next : ℕ) → x.kind ≡ kind.Dir → Ties F full x next
    → AreOnce (numbers (number_files F saved) x) → (p : Path) (id : Id) (es : List StoredEntry) → (at : IsAt p x (origin.Object id))
    → saved at.row.number id ≡ Some es → AreStorable es
    → (g : StoredEntry) → Contains es g → (c : ℕ) (f : StoredEntry) → IsLive full c → Names full c f → g.number ≢ f.number

-- A kept table that shows each number once stays kept with a directory loaded with its numbers: these were saved for the
-- tree object's entries.
abbrev pub SavedLoadKept : Type 0
SavedLoadKept = (R : Repository) (F : Stored) (saved : ℕ → Id → Option (List StoredEntry)) (clock next : ℕ) (x : Row) (p : Path) (id : Id) (d : Directory)
    → IsTable x next → IsKept R F x next → AreShown (numbers (number_files F saved) x) next → (at : IsAt p x (origin.Object id))
    → saved at.row.number id ≡ Some (listing_of d) → IsNew clock d → IsFrom R no_files at.row d → AreStorable (listing_of d)
    → IsKept R F (with_loaded p clock d x) next
