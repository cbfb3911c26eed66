-- Rows that have a name each.
use Rattle.std.specs.Prelude.{List, Option, find, map}
use Rattle.std.specs.Str.{bytes_eq}
use Rattle.std.specs.Ordering.{nat_cmp}
use Rattle.std.specs.Cmp.Lexicographic.{slice_cmp}
use Rattle.std.specs.List.Sorted.{IsStrictlySortedBy}
use Rattle.eden_model.specs.Trees.{Name}

-- the first row of that name
abbrev pub named : {X : Type 0} → (X → Name) → Name → List X → Option X
named name n rows = find (λ x. bytes_eq n (name x)) rows

-- in strictly rising byte order of names, so none comes twice
abbrev pub AreRising : {X : Type 0} → (X → Name) → List X → Type 0
AreRising name rows = IsStrictlySortedBy (slice_cmp nat_cmp) (map name rows)
