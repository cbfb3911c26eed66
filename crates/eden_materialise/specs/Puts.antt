-- What holds of a loaded directory.
use Rattle.std.specs.Prelude.{◌≡◌, Some}
use Rattle.eden_model.specs.Trees.{Path}
use Rattle.eden_tree.specs.Directory.{Row, Directory, child_of}
use Rattle.eden_tree.specs.Paths.{row_at}

-- what holds of the entry at a path and of the loaded directory that it holds
abbrev pub AtDirectory : Path → Row → (Row → Directory → Type 0) → Type 0
AtDirectory p x P = (y : Row) (d : Directory) → row_at p x ≡ Some y → child_of y ≡ Some d → P y d
