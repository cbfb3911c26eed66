-- One entry changed along with a state beside the tree.
use Rattle.std.specs.Prelude.{◌≡◌, Some}
use Rattle.eden_model.specs.Trees.{Path}
use Rattle.eden_tree.specs.Directory.{Row}
use Rattle.eden_tree.specs.Paths.{row_at, edit_row}

-- new is old with the entry at a path changed, as `does` says of the entry before, the state then, the entry then and the answer
pub record IsChanged {S O : Type 0} (does : Row → S → Row → O → Type 0) (p : Path) (old new : Row) (state : S) (answer : O) : Type 0 where
  pub before : Row
  pub after : Row
  pub was : row_at p old ≡ Some before
  pub done : does before state after answer
  pub is : new ≡ edit_row p (λ _. after) old
