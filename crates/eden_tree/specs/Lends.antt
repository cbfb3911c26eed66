-- What a directory ends as, once a reference to one of its entries has ended.
use Rattle.std.specs.Prelude.{ℕ, Option, Some}
use Rattle.std.specs.Borrow.{LendsIf, Fml, RattleType, MutBor}
use Rattle.std.specs.declared.alloc.Allocator.{Ghosts}
use Rattle.eden_model.specs.Trees.{Name}
use Rattle.eden_tree.specs.Directory.{Row, Directory, with_child}
use Rattle.eden_tree.specs.Rows.{set_row, set_at}
use Rattle.eden_tree.specs.contracts.dir.Dir.{the_row}
use Rattle.eden_tree.specs.contracts.dir.Entry.{the_row as entry_row}

module _ (A : RattleType) (alloc : Ghosts A.Denot) (s : MutBor Directory) where
  -- the entry of that name is what was last written through r
  abbrev pub lends_entry : Name → Option (MutBor Row) → Fml
  lends_entry n r = LendsIf (the_row A alloc) (entry_row A alloc) s r (λ w. record s.now { rows = set_row n w s.now.rows }) s.now

  -- the entry at that position is
  abbrev pub lends_at : ℕ → Option (MutBor Row) → Fml
  lends_at i r = LendsIf (the_row A alloc) (entry_row A alloc) s r (λ w. record s.now { rows = set_at i w s.now.rows }) s.now

-- what an entry ends as, once a reference to the directory that it holds has ended
module _ (A : RattleType) (alloc : Ghosts A.Denot) (s : MutBor Row) where
  abbrev pub lends_directory : Option (MutBor Directory) → Fml
  lends_directory r = LendsIf (entry_row A alloc) (the_row A alloc) s r (λ w. with_child (Some w) s.now) s.now
