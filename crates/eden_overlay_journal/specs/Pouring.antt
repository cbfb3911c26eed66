-- Files with a journal over them.
use Rattle.std.specs.Prelude.{ℕ}

-- the files, the journal, and how many calls answered that the device failed
pub record Journaling (F J : Type 0) : Type 0 where
  pub files : F
  pub journal : J
  pub failures : ℕ
