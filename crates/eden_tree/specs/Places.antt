-- Places of names in rows.
use Rattle.std.specs.Prelude.{◌≡◌, ℕ, ◌<◌, ◌≤◌, List, length, slice_index_or}
use Rattle.std.specs.declared.cmp.Ordering.TheVariants.{Less, Equal, Greater}
use Rattle.std.specs.Ordering.{nat_cmp}
use Rattle.std.specs.Cmp.Lexicographic.{slice_cmp}
use Rattle.eden_model.specs.Trees.{Name}
use Rattle.eden_tree.specs.Directory.{Row}

-- the name is at place i
pub record IsPlaceOf (rows : List (Name × Row)) (n : Name) (i : ℕ) : Type 0 where
  pub in_range : i < length rows
  pub same : (d : Name × Row) → slice_cmp nat_cmp (slice_index_or rows i d).0 n ≡ Equal

-- the name isn't there, and would go to place i
pub record IsGap (rows : List (Name × Row)) (n : Name) (i : ℕ) : Type 0 where
  pub in_range : i ≤ length rows
  pub less_before : (j : ℕ) (d : Name × Row) → j < i → slice_cmp nat_cmp (slice_index_or rows j d).0 n ≡ Less
  pub greater_from : (j : ℕ) (d : Name × Row) → i ≤ j → j < length rows → slice_cmp nat_cmp (slice_index_or rows j d).0 n ≡ Greater
