-- The files that a mount's changes are kept in: of one sort or of another.
use Rattle.std.specs.Prelude.{ℕ}
use Rattle.eden_overlay.specs.Files.{Stored}
use Rattle.mountd.specs.declared.mount_files.EitherFiles.{EitherFiles}
use Rattle.mountd.specs.declared.mount_files.EitherFiles.TheVariants.{Memory, Overlay}

module _ {M O : Type 0} where
  -- they store what those of their sort do
  abbrev pub stored_by : (M → Stored) → (O → Stored) → EitherFiles M O → Stored
  stored_by memory overlay (Memory files) = memory files
  stored_by memory overlay (Overlay files) = overlay files

  -- .. and fail as often
  abbrev pub failures_by : (M → ℕ) → (O → ℕ) → EitherFiles M O → ℕ
  failures_by memory overlay (Memory files) = memory files
  failures_by memory overlay (Overlay files) = overlay files
