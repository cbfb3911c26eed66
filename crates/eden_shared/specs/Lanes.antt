-- What the ends under the lock are named, and what they hold.
use Rattle.std.specs.Prelude.{◌≡◌, ◌-◌, ◌≤◌, ℕ, List, map, slice_get, Some}
use Rattle.eden_shared.specs.declared.account.Account.{Account}
use Rattle.eden_shared.specs.declared.lanes.Lane.{Lane}

abbrev pub names_of : List Lane → List ℕ
names_of lanes = map (λ (l : Lane). l.near.name) lanes

abbrev pub values_of : List Lane → List Account
values_of lanes = map (λ (l : Lane). l.near.value) lanes

-- the tie of pass c has the name
abbrev pub HasName : List ℕ → ℕ → ℕ → Type 0
HasName names c name = (1 ≤ c) × (slice_get names (c - 1) ≡ Some name)
