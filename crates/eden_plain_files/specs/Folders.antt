-- A folder of files, as the contracts of whoever reads it see it.
use Rattle.std.specs.Prelude.{ℕ, List}

-- where the files lie, and how often the device failed
pub record Folder : Type 0 where
  pub path : List ℕ
  pub failures : ℕ
