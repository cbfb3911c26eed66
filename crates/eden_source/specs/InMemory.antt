-- Objects by their ids, as they lie in memory.
use Rattle.std.specs.Prelude.{◌≡◌, ◌≢◌, ◌⊎◌, ℕ, List, map, Option, Some, None, Ok, Err, IfSome}
use Rattle.std.specs.Map.{lookup}
use Rattle.std.specs.Str.{bytes_eq}
use Rattle.std.specs.declared.alloc.Global.{Global}
use Rattle.std.specs.declared.vec.Vec.{Vec}
use Rattle.eden_model.specs.declared.id.Id.{Id}
use Rattle.eden_model.specs.declared.fault.Cause.TheVariants as cause
use Rattle.eden_model.specs.Repository.{Repository}
use Rattle.eden_object.specs.Objects.{IsHonest}
use Rattle.eden_source.specs.Fetching.{Answer}

-- each id, and the framed bytes under it
abbrev pub Objects : Type 0
Objects = List (Id × List ℕ)

-- the entries of a map, as objects
abbrev pub objects_of : List (Id × Vec ℕ Global) → Objects
objects_of entries = map (λ e. (e.0, e.1.items)) entries

-- the framed bytes under the id
abbrev pub framed_at : Objects → Id → Option (List ℕ)
framed_at objects id = lookup (λ k. bytes_eq id.bytes k.bytes) objects

-- new has these bytes under the id, and under each other id what old has
pub record Puts (old new : Objects) (id : Id) (framed : List ℕ) : Type 0 where
  pub here : framed_at new id ≡ Some framed
  pub others : (k : Id) → k ≢ id → framed_at new k ≡ framed_at old k

-- whatever stands under an id agrees with the repository
abbrev pub HoldsHonest : Repository → Objects → Type 0
HoldsHonest R objects = (id : Id) → IfSome (framed_at objects id) (IsHonest R id)

-- the bytes that are there, or no memory for them; where there are none, Missing
abbrev pub AnswersWith : Option (List ℕ) → Answer → Type 0
AnswersWith None answer = answer ≡ Err cause.Missing
AnswersWith (Some framed) answer = (answer ≡ Ok framed) ⊎ (answer ≡ Err cause.Memory)

-- objects in memory answer so, and stay as they are
pub record FetchedFromMemory (old : Objects) (id : Id) (answer : Answer) (new : Objects) : Type 0 where
  pub same : new ≡ old
  pub answers : AnswersWith (framed_at old id) answer
