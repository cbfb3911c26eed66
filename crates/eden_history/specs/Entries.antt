-- What contracts see of entries that are kept.
use Rattle.std.specs.Prelude.{ℕ, List}
use Rattle.eden_model.specs.declared.entry.Entry.{Entry}

pub record Entries : Type 0 where
  pub list : List Entry
  -- how many there may be
  pub limit : ℕ
  -- how many find room in the memory that there is
  pub room : ℕ
