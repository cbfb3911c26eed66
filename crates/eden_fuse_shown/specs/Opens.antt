-- Which files are open, and how often each, by their nodes.
use Rattle.std.specs.Prelude.{◌≡◌, ℕ, ◌+◌, ◌-◌, ◌==◌, nat_le, Bool, false, List, Option, Some, None, option_and_then, if◌then◌else◌}
use Rattle.std.specs.Ordering.{nat_cmp}
use Rattle.std.specs.BTreeMap.{is_at}
use Rattle.std.specs.Map.{lookup}

abbrev pub Table : Type 0
Table = List (ℕ × ℕ)

-- how often a node is open, if it is
abbrev pub opens_of : Table → ℕ → Option ℕ
opens_of t i = lookup (is_at (nat_cmp i)) t

abbrev pub IsSameOpens : Table → Table → Type 0
IsSameOpens old new = (i : ℕ) → opens_of new i ≡ opens_of old i

abbrev pub one_more : Option ℕ → Option ℕ
one_more None = Some 1
one_more (Some n) = Some (n + 1)

abbrev pub one_less : Option ℕ → Option ℕ
one_less o = option_and_then (λ n. if nat_le n 1 then None else Some (n - 1)) o

-- it is open once
abbrev pub is_last : Option ℕ → Bool
is_last None = false
is_last (Some n) = nat_le n 1

-- a node was opened once more; all else is as before
abbrev pub Raises : Table → Table → ℕ → Type 0
Raises old new node = (i : ℕ) → opens_of new i ≡ (if i == node then one_more (opens_of old i) else opens_of old i)

-- .. closed once
abbrev pub Lowers : Table → Table → ℕ → Type 0
Lowers old new node = (i : ℕ) → opens_of new i ≡ (if i == node then one_less (opens_of old i) else opens_of old i)
