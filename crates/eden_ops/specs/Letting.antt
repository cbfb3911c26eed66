-- Directories that are unloaded.
use Rattle.std.specs.Prelude.{◌≡◌, ◌⊎◌, Some, None}
use Rattle.eden_model.specs.Trees.{Path}
use Rattle.eden_tree.specs.Directory.{Row}
use Rattle.eden_tree.specs.Paths.{edit_row, Standing, standing_at}
use Rattle.eden_ops.specs.Changes.{SameNames}

-- an entry as it was, but that its directory may have gone
pub record IsLeft (y v : Standing) : Type 0 where
  pub number : v.number ≡ y.number
  pub kind : v.kind ≡ y.kind
  pub origin : v.origin ≡ y.origin
  pub loaded : (v.loaded ≡ y.loaded) ⊎ (v.loaded ≡ None)

-- Directories at and below a path went: each entry that is left is as it was, a directory that is still loaded has all its
-- names, and what stands elsewhere did not change.
pub record LetsGo (p : Path) (x z : Row) : Type 0 where
  pub elsewhere : (y : Row) × (z ≡ edit_row p (λ w. y) x)
  pub left : (q : Path) (v : Standing) → standing_at q z ≡ Some v → (y : Standing) × ((standing_at q x ≡ Some y) × IsLeft y v)
  pub names : SameNames x z
