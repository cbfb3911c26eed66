-- Paths that are one name longer than a front.
use Rattle.std.specs.Prelude.{ℕ, List, [], ◌∷◌, Option, Some, None}

-- the name in a path of one
abbrev pub only_name : Option (List (List ℕ)) → Option (List ℕ)
only_name None = None
only_name (Some []) = None
only_name (Some (n ∷ [])) = Some n
only_name (Some (n ∷ m ∷ p)) = None
