-- Events, and what each does to a mount.
use Rattle.std.specs.Prelude.{ℕ, Bool, List, [], ◌∷◌, Option, Result}
use Rattle.eden_model.specs.declared.fault.Cause.{Cause}
use Rattle.eden_model.specs.declared.fault.StartFault.{StartFault}
use Rattle.eden_model.specs.declared.id.Key.{Key}
use Rattle.eden_model.specs.declared.request.Request.{Request}
use Rattle.eden_model.specs.Trees.{Path}
use Rattle.eden_model.specs.Repository.{Repository}
use Rattle.eden_object.specs.Objects.{IsHonest}
use Rattle.eden_mount.specs.declared.events.Turned.{Turned}
use Rattle.eden_mount.specs.declared.events.Arrived.{Arrived}
use Rattle.eden_mount.specs.declared.events.Event.{Event}
use Rattle.eden_mount.specs.declared.events.Event.TheVariants as event
use Rattle.eden_mount.specs.declared.events.Outcome.{Outcome}
use Rattle.eden_mount.specs.declared.events.Outcome.TheVariants as outcome
use Rattle.eden_mount.specs.Tables.{Table}
use Rattle.eden_mount.specs.Core.{Core}
use Rattle.eden_mount.specs.Steps.{Starts, Turns, Takes, Arrives, Fails, LetsGo, IsSynced}

-- bytes that arrive agree with the repository
abbrev pub IsHonestEvent : Repository → Event → Type 0
IsHonestEvent R (event.Start c q) = Unit {0}
IsHonestEvent R (event.Turn c) = Unit {0}
IsHonestEvent R event.Take = Unit {0}
IsHonestEvent R (event.Arrive k bytes) = IsHonest R k.id bytes
IsHonestEvent R (event.Fail k x) = Unit {0}
IsHonestEvent R (event.Unload p age) = Unit {0}
IsHonestEvent R event.Sync = Unit {0}

abbrev pub AreHonest : Repository → List Event → Type 0
AreHonest R [] = Unit {0}
AreHonest R (e ∷ es) = IsHonestEvent R e × AreHonest R es

module _ {T : Type 0} (A : Table T) (honest : Type 0) (copies : Bool) where
  -- the event was answered so, which left the mount as the second says
  pub data Steps (m m' : Core T) : Event → Outcome → Type 0 where
    starts : (c : ℕ) (q : Request) (r : Result Unit StartFault) → Starts m c q r m'
        → Steps m m' (event.Start c q) (outcome.Start r)
    turns : (c : ℕ) (t : Turned) → Turns A honest copies m c t m' → Steps m m' (event.Turn c) (outcome.Turn t)
    takes : (o : Option Key) → Takes m o m' → Steps m m' event.Take (outcome.Take o)
    arrives : (k : Key) (bytes : List ℕ) (a : Arrived) → Arrives A m k bytes a m'
        → Steps m m' (event.Arrive k bytes) (outcome.Arrive a)
    fails : (k : Key) (x : Cause) (b : Bool) → Fails m k x b m' → Steps m m' (event.Fail k x) (outcome.Fail b)
    unloads : (p : Path) (age gone : ℕ) → LetsGo A honest m p age gone m'
        → Steps m m' (event.Unload p age) (outcome.Unload gone)
    syncs : (went : Bool) → IsSynced A honest m went m' → Steps m m' event.Sync (outcome.Sync went)
