-- Where a node lies: the names on the way from the root to it.
use Rattle.std.specs.Prelude.{◌≡◌, ℕ, ◌<◌, List, [], ◌∷◌, length, reverse, Some, IsSome, Result, Ok, Err}
use Rattle.eden_model.specs.Paths.{most_names, path_refusal}
use Rattle.eden_fuse_nodes.specs.declared.way.Way.{Way}
use Rattle.eden_fuse_nodes.specs.declared.way.Way.TheVariants as way
use Rattle.eden_fuse_nodes.specs.declared.way.Whereabouts.{Whereabouts}
use Rattle.eden_fuse_nodes.specs.declared.way.Whereabouts.TheVariants.{At, TooFar, Nowhere}
use Rattle.eden_fuse_nodes.specs.Tables.{Table, place_of, root}

-- the names on the way from the node up to the root, its own first
abbrev pub LeadsUp : Table → ℕ → List (List ℕ) → Type 0
LeadsUp t id [] = id ≡ root
LeadsUp t id (name ∷ up) = (parent : ℕ) × (place_of t id ≡ Some (record { parent = parent; name = name })) × LeadsUp t parent up

-- some names lead there
abbrev pub IsBelowRoot : Table → ℕ → Type 0
IsBelowRoot t id = (up : List (List ℕ)) × LeadsUp t id up

-- how the way from a node up ends
abbrev pub EndsSo : Table → ℕ → Way → Type 0
EndsSo t id (way.AtRoot up) = LeadsUp t id up.items × ((other : List (List ℕ)) → LeadsUp t id other → other ≡ up.items)
EndsSo t id way.Far = (up : List (List ℕ)) × LeadsUp t id up × (most_names < length up)
EndsSo t id way.Lost = (up : List (List ℕ)) → ¬ LeadsUp t id up

-- where a node lies whose way ends so
abbrev pub Follows : Way → Whereabouts → Type 0
Follows (way.AtRoot up) (At path) = path ≡ reverse up.items
Follows (way.AtRoot up) TooFar = IsSome (path_refusal (reverse up.items))
Follows (way.AtRoot up) Nowhere = ⊥
Follows way.Far w = w ≡ TooFar
Follows way.Lost w = w ≡ Nowhere

-- the node lies at the path
abbrev pub LiesAt : Table → ℕ → List (List ℕ) → Type 0
LiesAt t id path = LeadsUp t id (reverse path)

-- where a node lies: too far if at a path that no request can have, and nowhere if at no path, as after it was removed
abbrev pub IsWhere : Table → ℕ → Whereabouts → Type 0
IsWhere t id (At path) = LiesAt t id path
IsWhere t id TooFar = (path : List (List ℕ)) × LiesAt t id path × IsSome (path_refusal path)
IsWhere t id Nowhere = (path : List (List ℕ)) → ¬ LiesAt t id path

-- its path, or why there is none: ENAMETOOLONG (36), ESTALE (116)
abbrev pub path_in : Whereabouts → Result (List (List ℕ)) ℕ
path_in (At path) = Ok path
path_in TooFar = Err 36
path_in Nowhere = Err 116
