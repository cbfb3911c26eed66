-- Which nodes the kernel knows, how often it was told of each, and where each stands.
use Rattle.std.specs.Prelude.{◌≡◌, ◌≢◌, ◌⊎◌, ℕ, ◌+◌, ◌-◌, ◌<◌, ◌==◌, nat_le, List, Option, Some, None, option_map, option_and_then, if◌then◌else◌}
use Rattle.std.specs.Ordering.{nat_cmp}
use Rattle.std.specs.BTreeMap.{is_at}
use Rattle.std.specs.Map.{lookup}
use Rattle.eden_fuse_nodes.specs.declared.place.Place.{Place}
use Rattle.eden_fuse_nodes.specs.declared.known.Known.{Known}

-- a table as callers see it: each node that the kernel knows, by its number
abbrev pub Table : Type 0
Table = List (ℕ × Known)

-- what is known of a node
abbrev pub known : Table → ℕ → Option Known
known t i = lookup (is_at (nat_cmp i)) t

-- the root; the kernel knows it untold, and it stands at no place
abbrev pub root : ℕ
root = 1

-- where a node stands
abbrev pub place_in : Option Known → Option Place
place_in o = option_and_then (λ k. k.place) o

abbrev pub place_of : Table → ℕ → Option Place
place_of t i = place_in (known t i)

-- how often the kernel was told of a node and hasn't forgotten it
abbrev pub count_in : Option Known → ℕ
count_in None = 0
count_in (Some k) = k.count

abbrev pub count_of : Table → ℕ → ℕ
count_of t i = count_in (known t i)

-- the node was told of, so many times in all, and stands at the place
abbrev pub standing : ℕ → Place → Option Known
standing n p = Some (record { count = n; place = Some p })

-- it was told of as often as before, and stands nowhere
abbrev pub nowhere : Option Known → Option Known
nowhere o = option_map (λ k. record { count = k.count; place = None }) o

-- .. and stands at the place
abbrev pub moved : Place → Option Known → Option Known
moved p o = option_map (λ k. record { count = k.count; place = Some p }) o

-- it was told of once more, and stands where it stood
abbrev pub once_more : Option Known → Option Known
once_more o = option_map (λ k. record { count = k.count + 1; place = k.place }) o

-- no node stands at the place
abbrev pub IsBare : Table → Place → Type 0
IsBare t p = (i : ℕ) → place_of t i ≢ Some p

-- this node stands at the place, and no other
abbrev pub StandsAlone : Table → ℕ → Place → Type 0
StandsAlone t id p = (place_of t id ≡ Some p) × ((i : ℕ) → place_of t i ≡ Some p → i ≡ id)

-- what every table keeps: a node that is known was told of, and is the only one at its place; none is the root
pub record IsNodeTable (t : Table) : Type 0 where
  pub told : (i : ℕ) (k : Known) → known t i ≡ Some k → (root < i) × (0 < k.count)
  pub alone : (i j : ℕ) (p : Place) → place_of t i ≡ Some p → place_of t j ≡ Some p → i ≡ j

-- all is as before
abbrev pub IsSameNodes : Table → Table → Type 0
IsSameNodes old new = (i : ℕ) → known new i ≡ known old i

-- a node that stood nowhere stands at the place; all else is as before
abbrev pub Moves : Table → Table → ℕ → Place → Type 0
Moves old new id p = (i : ℕ) → known new i ≡ (if i == id then moved p (known old i) else known old i)

-- the node stands at the place, or is new there, and was told of once more; all else is as before
pub record Learns (old new : Table) (id : ℕ) (p : Place) : Type 0 where
  pub settled : (place_of old id ≡ Some p) ⊎ ((known old id ≡ None) × IsBare old p)
  pub known : (i : ℕ) → known new i ≡ (if i == id then standing (count_of old id + 1) p else known old i)

-- what is left of a node that was told of so many times less: nothing where that is as often as it was told of
abbrev pub less : ℕ → Option Known → Option Known
less n o = option_and_then (λ k. if nat_le k.count n then None else Some (record { count = k.count - n; place = k.place })) o

-- what is known of such a node before, where nothing is left
abbrev pub dropped : ℕ → Option Known → Option Known
dropped n o = option_and_then (λ k. if nat_le k.count n then Some k else None) o

abbrev pub Forgets : Table → Table → ℕ → ℕ → Type 0
Forgets old new id n = (i : ℕ) → known new i ≡ (if i == id then less n (known old i) else known old i)

-- what stood at the place stands nowhere; all else is as before
pub record RemovesNode (old new : Table) (p : Place) : Type 0 where
  pub gone : (i : ℕ) → place_of old i ≡ Some p → known new i ≡ nowhere (known old i)
  pub kept : (i : ℕ) → place_of old i ≢ Some p → known new i ≡ known old i

-- what stands somewhere stood there before, and not at the place
abbrev pub IsCleared : Table → Table → Place → Type 0
IsCleared old new p = (i : ℕ) (q : Place) → place_of new i ≡ Some q → (place_of old i ≡ Some q) × (q ≢ p)

-- what stood at the first place stands at the second, and what stood there nowhere; all else is as before
pub record Renames (old new : Table) (p q : Place) : Type 0 where
  pub goes : (i : ℕ) → place_of old i ≡ Some p → known new i ≡ moved q (known old i)
  pub replaced : (i : ℕ) → place_of old i ≡ Some q → place_of old i ≢ Some p → known new i ≡ nowhere (known old i)
  pub kept : (i : ℕ) → place_of old i ≢ Some p → place_of old i ≢ Some q → known new i ≡ known old i

-- what stood at either place stands nowhere; all else is as before
pub record Scatters (old new : Table) (p q : Place) : Type 0 where
  pub gone : (i : ℕ) → (place_of old i ≡ Some p) ⊎ (place_of old i ≡ Some q) → known new i ≡ nowhere (known old i)
  pub kept : (i : ℕ) → place_of old i ≢ Some p → place_of old i ≢ Some q → known new i ≡ known old i
