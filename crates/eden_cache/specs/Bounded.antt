-- Lists by last use, the newest first, and their longest front within bounds.
use Rattle.std.specs.Prelude.{◌≡◌, ℕ, ◌<◌, ◌≤◌, Bool, ◌⊎◌, List, ◌∷◌, length, take, Option, Some, None}
use Rattle.std.specs.List.{sum_by}
use Rattle.std.specs.Map.{values_of, remove_entry}
use Rattle.eden_model.specs.declared.id.Key.{Key}
use Rattle.eden_object.specs.Objects.{Body}

-- the list after v was put under k, which is then the newest
abbrev pub newest : {K V : Type 0} → (K → K → Bool) → K → V → List (K × V) → List (K × V)
newest eq k v es = (k, v) ∷ remove_entry (eq k) es

-- the bytes of the objects' bodies together
abbrev pub weight_of : List (Key × Body) → ℕ
weight_of objects = sum_by (λ b. length b.bytes) (values_of objects)

-- those of the object that left, if one did
abbrev pub weight_gone : Option (Key × Body) → ℕ
weight_gone None = 0
weight_gone (Some e) = length e.1.bytes

-- the objects are at most so many, of at most so many bytes
pub record KeepsBounds (entries bytes : ℕ) (objects : List (Key × Body)) : Type 0 where
  pub few : length objects ≤ entries
  pub light : weight_of objects ≤ bytes

-- they keep both bounds, or are one object alone
abbrev pub Fits : ℕ → ℕ → List (Key × Body) → Type 0
Fits entries bytes objects = KeepsBounds entries bytes objects ⊎ (length objects ≡ 1)

-- what is kept is the longest front of all that keeps both bounds, or the first object alone
pub record IsLongestFront (entries bytes : ℕ) (all kept : List (Key × Body)) : Type 0 where
  pub front : kept ≡ take (length kept) all
  pub some : 0 < length kept
  pub fits : Fits entries bytes kept
  pub longest : (n : ℕ) → length kept < n → n ≤ length all → KeepsBounds entries bytes (take n all) → ⊥
