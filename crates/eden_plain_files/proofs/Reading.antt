-- What a reader gave within a bound.
use Rattle.std.proofs.Common.{◌≡◌, ◌∙◌, ◌+◌, ◌≤◌, ℕ, List, [], ◌++◌, Option, Some, None, IfSome, length, take, ap, arith}
use Rattle.std.specs.Option.{option_map}
use Rattle.std.proofs.lemmas.List.{length-take, take_all}

-- what stays within the bound, where one byte more was let through, is all
pub whole_within : (o : Option (List ℕ)) (bound : ℕ) (items : List ℕ) → IfSome (option_map (take (bound + 1)) o) (λ xs. items ≡ [] ++ xs) → length items ≤ bound → IfSome o (λ bytes. items ≡ bytes)
whole_within None bound items e short = tt
whole_within (Some bytes) bound items e short =
    let fits : length bytes ≤ bound + 1 = omega (arith, length-take (bound + 1) bytes, ap length e) in
    e ∙ take_all (bound + 1) bytes fits
