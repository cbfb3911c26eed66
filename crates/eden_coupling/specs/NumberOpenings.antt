-- What the files of an opening show of inode numbers.
use Rattle.std.specs.Prelude.{◌≡◌, ◌≤◌, ℕ, Option, None}
use Rattle.eden_model.specs.declared.id.Id.{Id}
use Rattle.eden_model.specs.declared.kind.Kind.TheVariants as kind
use Rattle.eden_model.specs.Backing.{AreShown}
use Rattle.eden_model.specs.Limits.{number_end}
use Rattle.eden_model.specs.Repository.{Repository}
use Rattle.eden_overlay_format.specs.declared.state.State.{State}
use Rattle.eden_overlay.specs.Counting.{root_from, NumbersAreSound}
use Rattle.eden_overlay.specs.Files.{Stored}
use Rattle.eden_overlay.specs.Held.{root_file, without, with_state}
use Rattle.eden_overlay.specs.Rescanning.{IsNextOf}
use Rattle.eden_overlay.specs.Tidying.{IsTidiedInPart}
use Rattle.eden_tree.specs.Directory.{Row, child_of}
use Rattle.eden_coupling.specs.NumberKept.{KeepsNumbers, SameNumbers}
use Rattle.eden_coupling.specs.NumberLoads.{AreBlank}
use Rattle.eden_coupling.specs.NumberNodes.{ListTrees}
use Rattle.eden_coupling.specs.Numberings.{in_files, numbers}

-- the root's entry over these files and that commit's tree, before anything is loaded
pub record IsRootOver (F : Stored) (root : Id) (x : Row) : Type 0 where
  pub number : x.number ≡ 1
  pub is_dir : x.kind ≡ kind.Dir
  pub away : child_of x ≡ None
  pub from : x.origin ≡ root_from root (root_file F)

-- Where the numbers of files are sound, a number found to be the next is above each that they show, and none is shown twice.
abbrev pub FoundShown : Type 0
FoundShown = (F : Stored) (root : Id) (x : Row) (next : ℕ) → IsRootOver F root x → NumbersAreSound F root → IsNextOf F root next → next ≤ number_end
    → AreShown (numbers (in_files F) x) next

-- .. and none is saved from it on
abbrev pub FoundBlank : Type 0
FoundBlank = (F : Stored) (root : Id) (next : ℕ) → IsNextOf F root next → AreBlank (in_files F) next

-- so that a table over them keeps its numbers, where they list the commit's trees
abbrev pub FoundKeeps : Type 0
FoundKeeps = (R : Repository) (F : Stored) (root : Id) (x : Row) (next : ℕ) → IsRootOver F root x → NumbersAreSound F root → IsNextOf F root next
    → next ≤ number_end → ListTrees R (in_files F) x → KeepsNumbers R F x next

-- The state's file may be taken out, and stored.
abbrev pub StateGoes : Type 0
StateGoes = (R : Repository) (F : Stored) (x : Row) (next : ℕ) → KeepsNumbers R F x next → SameNumbers R F x (without F 0) x next

abbrev pub StateComes : Type 0
StateComes = (R : Repository) (F : Stored) (x : Row) (next : ℕ) (s : State) → KeepsNumbers R F x next → SameNumbers R F x (with_state F s) x next

-- So may orphans, over the commit's tree over which they are.
abbrev pub OrphansGo : Type 0
OrphansGo = (R : Repository) (F G : Stored) (root : Id) (x : Row) (next : ℕ) → IsRootOver F root x → IsTidiedInPart F root G → KeepsNumbers R F x next
    → SameNumbers R F x G x next
