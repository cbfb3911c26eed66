-- Lists of keys.
use Rattle.std.specs.Prelude.{Bool, not, List}
use Rattle.std.specs.List.{list_any, filter}
use Rattle.eden_model.specs.declared.id.Key.{Key}
use Rattle.eden_model.specs.Keys.{same_key}

-- whether the key is among these
abbrev pub has_key : Key → List Key → Bool
has_key k ks = list_any (same_key k) ks

-- these keys without that one
abbrev pub without_key : Key → List Key → List Key
without_key k ks = filter (λ j. not (same_key k j)) ks
