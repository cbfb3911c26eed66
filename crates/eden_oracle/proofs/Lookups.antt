-- Look-ups in rows, where the first row of a path counts.
use Rattle.std.proofs.Common.{◌≡◌, List, [], ◌∷◌, ◌++◌, refl, Option, Some, None, Bool, true, false, cond}
use Rattle.std.specs.Prelude.{if◌then◌else◌}
use Rattle.std.specs.Map.{lookup}
use Rattle.std.specs.Option.{option_or}

push_head : {X : Type 0} (b : Bool) (v : X) (tail all : Option X) (last : Option X) → all ≡ option_or tail last → cond b (Some v) all ≡ option_or (cond b (Some v) tail) last
push_head true v tail all last e = refl
push_head false v tail all last e = e

-- a row at the end is seen where no other is
pub lookup-push : {K X : Type 0} (test : K → Bool) (rows : List (K × X)) (k : K) (v : X) → lookup test (rows ++ (k, v) ∷ []) ≡ option_or (lookup test rows) (if test k then Some v else None)
lookup-push test [] k v = refl
lookup-push test (r ∷ rows) k v = push_head (test r.0) r.1 (lookup test rows) (lookup test (rows ++ (k, v) ∷ [])) (if test k then Some v else None) (lookup-push test rows k v)
