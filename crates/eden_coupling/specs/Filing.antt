-- The own file of an entry: what it shows, and what is kept while it is stored.
use Rattle.std.specs.Prelude.{◌≡◌, ◌≢◌, ◌≤◌, ℕ, true, false, List, [], ◌∷◌, ◌++◌, length, Option, Some, None}
use Rattle.eden_model.specs.declared.kind.Kind.TheVariants as kind
use Rattle.eden_model.specs.declared.kind.Origin.TheVariants as origin
use Rattle.eden_model.specs.declared.node.Node.{Node}
use Rattle.eden_model.specs.declared.node.Node.TheVariants as node
use Rattle.eden_model.specs.Repository.{Repository, source_of, content_with}
use Rattle.eden_model.specs.Shown.{node_from}
use Rattle.eden_model.specs.Trees.{Name, Path, Tree, graft}
use Rattle.eden_overlay_format.specs.Content.{content_most}
use Rattle.eden_overlay_format.specs.declared.stored_entry.StoredEntry.{StoredEntry}
use Rattle.eden_overlay.specs.Files.{Stored}
use Rattle.eden_overlay.specs.Held.{HoldsContent, HoldsEntries, own_files, with_content, with_entries}
use Rattle.eden_overlay.specs.Soundness.{AreSound}
use Rattle.eden_tree.specs.Directory.{Row, Directory, child_of}
use Rattle.eden_tree.specs.Rows.{find_row}
use Rattle.eden_tree.specs.Paths.{row_at}
use Rattle.eden_coupling.specs.Chains.{Above}
use Rattle.eden_coupling.specs.Kept.{IsTable, IsKept}
use Rattle.eden_coupling.specs.Loose.{IsLoose}
use Rattle.eden_coupling.specs.Shown.{shown_in}
use Rattle.eden_coupling.specs.ShownLaws.{shown_from}

-- a tree of one node
abbrev pub leaf : Node → Tree
leaf n [] = Some n
leaf n (m ∷ p) = None

-- the content of a file or a link that isn't loaded
abbrev pub content_shown : Repository → Stored → Row → Option (List ℕ)
content_shown R F w = content_with R (own_files F) (source_of w.number w.origin)

-- it shows that
abbrev pub ContentShows : Type 0
ContentShows = (R : Repository) (F : Stored) (w : Row) → w.kind ≢ kind.Dir → child_of w ≡ None
    → shown_from R F (Some w) ≡ leaf (node_from w.kind (content_shown R F w) false)

-- .. one of its own that of its file
abbrev pub FileShows : Type 0
FileShows = (R : Repository) (F : Stored) (w : Row) (content : List ℕ) → w.kind ≢ kind.Dir → w.origin ≡ origin.Own → child_of w ≡ None
    → HoldsContent F w.number content → shown_from R F (Some w) ≡ leaf (node_from w.kind (Some content) false)

-- a directory of its own, whose file lists nothing, shows no entries
abbrev pub EmptyShows : Type 0
EmptyShows = (R : Repository) (F : Stored) (w : Row) → w.kind ≡ kind.Dir → w.origin ≡ origin.Own → child_of w ≡ None
    → HoldsEntries F w.number [] → shown_from R F (Some w) ≡ leaf (node.Dir true)

-- a listing that is stored, with the chain above it, leaves a file that nothing has as its own
abbrev pub LooseElsewhere : Type 0
LooseElsewhere = (R : Repository) (F : Stored) (x : Row) (next k : ℕ) → IsTable x next → IsKept R F x next → IsLoose x next k
    → (M : Stored) (p : Path) (y : Row) (d : Directory) (entries : List StoredEntry) (G : Stored) → row_at p x ≡ Some y → child_of y ≡ Some d
    → Above (with_entries M y.number entries) x p G → G k ≡ M k

-- .. and so it does that of an entry that isn't loaded
abbrev pub EntryElsewhere : Type 0
EntryElsewhere = (R : Repository) (F : Stored) (x : Row) (next : ℕ) → IsTable x next → IsKept R F x next
    → (q : Path) (v : Row) (e : Directory) (n : Name) (w : Row) → row_at q x ≡ Some v → child_of v ≡ Some e → find_row n e.rows ≡ Some w → child_of w ≡ None
    → (M : Stored) (p : Path) (y : Row) (d : Directory) (entries : List StoredEntry) (G : Stored) → row_at p x ≡ Some y → child_of y ≡ Some d
    → Above (with_entries M y.number entries) x p G → G w.number ≡ M w.number

-- ---- a content in the place of another

-- in the loaded directory at a path the entry of that name is this one, a file or a link that isn't loaded
pub record HasFile (x : Row) (p : Path) (n : Name) (w : Row) : Type 0 where
  pub row : Row
  pub directory : Directory
  pub at : row_at p x ≡ Some row
  pub holds : child_of row ≡ Some directory
  pub there : find_row n directory.rows ≡ Some w
  pub unloaded : child_of w ≡ None
  pub file : w.kind ≢ kind.Dir

-- where it is its own, a content may be stored in the place of the old one: the files stay sound, and the table kept
abbrev pub ContentSound : Type 0
ContentSound = (R : Repository) (F : Stored) (x : Row) (next : ℕ) (p : Path) (n : Name) (w : Row) (content : List ℕ) → IsTable x next → IsKept R F x next
    → HasFile x p n w → w.origin ≡ origin.Own → length content ≤ content_most → AreSound (with_content F w.number content)

abbrev pub ContentKept : Type 0
ContentKept = (R : Repository) (F : Stored) (x : Row) (next : ℕ) (p : Path) (n : Name) (w : Row) (content : List ℕ) → IsTable x next → IsKept R F x next
    → HasFile x p n w → w.origin ≡ origin.Own → length content ≤ content_most → IsKept R (with_content F w.number content) x next

-- it shows there then, and all else is as before
abbrev pub ContentGrafts : Type 0
ContentGrafts = (R : Repository) (F : Stored) (x : Row) (next : ℕ) (p : Path) (n : Name) (w : Row) (content : List ℕ) → IsTable x next → IsKept R F x next
    → HasFile x p n w → w.origin ≡ origin.Own → length content ≤ content_most
    → shown_in R (with_content F w.number content) x ≡ graft (p ++ n ∷ []) (leaf (node_from w.kind (Some content) false)) (shown_in R F x)
