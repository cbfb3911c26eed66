-- A content that is stored for a file.
use Rattle.std.specs.Prelude.{◌≡◌, ◌≤◌, ◌⊎◌, ◌∷◌, [], ◌++◌, ℕ, true, false, MatchBool, List, length, Some, Result, OnOk, OnErr, IfErr}
use Rattle.eden_model.specs.declared.fault.Fault.{Fault}
use Rattle.eden_model.specs.declared.world.World.{Ghosts}
use Rattle.eden_model.specs.Repository.{Repository}
use Rattle.eden_model.specs.Shown.{node_from}
use Rattle.eden_model.specs.Trees.{Name, Path}
use Rattle.eden_overlay_format.specs.Content.{content_most}
use Rattle.eden_overlay_format.specs.Directory.{is_own}
use Rattle.eden_overlay.specs.declared.files.Files.{Ghosts as Files}
use Rattle.eden_overlay.specs.Files.{Stored}
use Rattle.eden_overlay.specs.Held.{with_content}
use Rattle.eden_tree.specs.Directory.{Row}
use Rattle.eden_coupling.specs.Filing.{leaf, HasFile}
use Rattle.eden_coupling.specs.Kept.{IsTable, IsKept}
use Rattle.eden_coupling.specs.Laws.{owned}
use Rattle.eden_inode.specs.Tables.{Table}
use Rattle.eden_materialise.specs.Faults.{IsStoreFault}
use Rattle.eden_materialise.specs.Filing.{FilesEntry, RefusedBy}
use Rattle.eden_materialise.specs.Listings.{PutsEntry, StoresEntry}
use Rattle.eden_materialise.specs.Showing.{ShowsAt}

-- a file of a table that is held may have that content
pub record MayFill (honest : Type 0) (R : Repository) (F : Stored) (x : Row) (p : Path) (n : Name) (content : List ℕ) : Type 0 where
  pub next : ℕ
  pub table : IsTable x next
  pub kept : honest → IsKept R F x next
  pub entry : Row
  pub has : HasFile x p n entry
  pub short : length content ≤ content_most

-- the files F became M, and nothing else changed
pub record FilesAlone (honest : Type 0) (F M : Stored) (x : Row) (old : ℕ) (G : Stored) (z : Row) (now : ℕ) (answer : Result (Unit {0}) Fault) : Type 0 where
  pub root : z ≡ x
  pub ok : honest → OnOk answer (G ≡ M)
  pub err : honest → OnErr answer (G ≡ F)
  pub fault : IfErr answer (IsStoreFault old now)
  pub counted : OnOk answer (now ≡ old)

-- .. where the entry w is its own already; else its file is stored first, and then it becomes its own
abbrev pub FillsFile : Type 0 → Path → Name → Row → Stored → Stored → Row → ℕ → Stored → Row → ℕ → Result (Unit {0}) Fault → Type 0
FillsFile honest p n w F M x old G z now answer =
    ((is_own w.origin ≡ true) × FilesAlone honest F M x old G z now answer)
    ⊎ ((is_own w.origin ≡ false) × FilesEntry honest p n (owned w) F M x old G z now answer)

-- ---- in a table: of the file under that name at a path

-- x became z in memory: the file is the mount's own then, and so are the directories on its path; if it was, nothing changed
abbrev pub OwnsFile : Path → Name → Row → Row → Type 0
OwnsFile p n x z = (w : Row) → HasFile x p n w → MatchBool (is_own w.origin) (z ≡ x) (PutsEntry p n (Some (owned w)) x z)

module _ {W F : Type 0} (f : Files F W) (p : Path) (n : Name) (content : List ℕ) (s t : Table F) where
  -- the content was stored under its number, and if it wasn't its own, then its directory with it so
  abbrev pub StoresContent : Type 0
  StoresContent = (w : Row) → HasFile s.root p n w → MatchBool (is_own w.origin) (f.stored t.files ≡ with_content (f.stored s.files) w.number content)
      (StoresEntry p n (Some (owned w)) (with_content (f.stored s.files) w.number content) s.root (f.stored t.files))

  -- one of these stores was refused
  abbrev pub RefusesContent : Type 0
  RefusesContent = (w : Row) → HasFile s.root p n w
      → RefusedBy (f.stored s.files) (with_content (f.stored s.files) w.number content) s.root p (f.stored t.files)

-- it is shown with the content, and elsewhere the same
abbrev pub ShowsContent : {W F : Type 0} → Ghosts W → Files F W → Path → Name → List ℕ → Table F → Table F → Type 0
ShowsContent world f p n content s t = (w : Row) → HasFile s.root p n w → ShowsAt world f (p ++ n ∷ []) (leaf (node_from w.kind (Some content) false)) s t
