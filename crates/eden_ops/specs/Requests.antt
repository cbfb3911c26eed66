-- Requests for a file, and the file that they meet.
use Rattle.std.specs.Prelude.{◌≡◌, ◌≤◌, ◌⊎◌, ℕ, Bool, false, List, length}
use Rattle.eden_model.specs.declared.kind.Kind.TheVariants as kind
use Rattle.eden_model.specs.declared.request.Request.{Request}
use Rattle.eden_model.specs.declared.request.Request.TheVariants as ask
use Rattle.eden_model.specs.Limits.{most_data, most_file}
use Rattle.eden_model.specs.Trees.{Path}
use Rattle.eden_tree.specs.Directory.{Row}
use Rattle.eden_inode.specs.declared.seen.Seen.{Seen}
use Rattle.eden_ops.specs.Attempts.{IsSeen}

-- the request is for the file at the path, and isn't refused before that is looked for
pub data IsForFile (p : Path) : Request → Type 0 where
  for_read : (offset count : ℕ) → count ≤ most_data → IsForFile p (ask.Read p offset count)
  for_patch : (offset : ℕ) (bytes : List ℕ) → length bytes ≤ most_file → IsForFile p (ask.Patch p offset bytes)
  for_truncate : (size : ℕ) → IsForFile p (ask.Truncate p size)
  for_exec : (exec : Bool) → IsForFile p (ask.SetExec p exec)

-- the entry at the path is a file, which isn't loaded
pub record IsFileSeen (p : Path) (x : Row) (seen : Seen) : Type 0 where
  pub entry : IsSeen p x seen
  pub away : seen.loaded ≡ false
  pub plain : (seen.kind ≡ kind.File) ⊎ (seen.kind ≡ kind.Exec)
