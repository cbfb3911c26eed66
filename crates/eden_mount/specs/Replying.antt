-- How a turn comes to its reply, or to its wait.
use Rattle.std.specs.Prelude.{◌≡◌, ◌≢◌, Bool, true, false, Option, Some}
use Rattle.eden_model.specs.declared.fault.Cause.{Cause}
use Rattle.eden_model.specs.declared.fault.Fault.TheVariants as fault
use Rattle.eden_model.specs.declared.id.Key.{Key}
use Rattle.eden_model.specs.declared.reply.Reply.{Reply}
use Rattle.eden_model.specs.declared.reply.Reply.TheVariants as say
use Rattle.eden_model.specs.declared.request.Request.{Request}
use Rattle.eden_model.specs.Requests.{has_payload}
use Rattle.eden_import.specs.Queue.{Mark}
use Rattle.eden_mount.specs.declared.settling.Settled.{Settled}
use Rattle.eden_mount.specs.declared.settling.Settled.TheVariants.{Found, Waits}
use Rattle.eden_mount.specs.Tables.{Table, Ticks, Finishes, Needs}

module _ {T : Type 0} (A : Table T) (honest : Type 0) where
  -- the reply of a request whose pass had that mark, whether the history copies replies or not
  pub data Replied (copies : Bool) (t : T) (q : Request) (mark : Option Mark) (r : Reply) (u : T) : Type 0 where
    -- the attempt's
    attempted : Finishes A honest t q r u → Replied copies t q mark r u
    -- what was found could not be copied
    uncopied : copies ≡ true → (found : Reply) → Finishes A honest t q found u → has_payload found ≡ true
        → r ≡ say.Fault fault.Memory → Replied copies t q mark r u
    -- it needs the key that failed for it
    failed : (k : Key) (x : Cause) → Needs A honest t q k u → mark ≡ Some (k, x) → r ≡ say.Fault (fault.Fetch k.id x)
        → Replied copies t q mark r u

  -- the request needs the key, which hasn't failed for it
  pub record Awaits (t : T) (q : Request) (mark : Option Mark) (k : Key) (u : T) : Type 0 where
    pub needs : Needs A honest t q k u
    pub unmarked : (x : Cause) → mark ≢ Some (k, x)

  -- what is found before any copy
  abbrev pub Settles : T → Request → Option Mark → Settled → T → Type 0
  Settles t q mark (Found r) u = Replied false t q mark r u
  Settles t q mark (Waits k) u = Awaits t q mark k u

  -- the same of a turn, which begins with a tick
  pub record ToldBy (copies : Bool) (t : T) (q : Request) (mark : Option Mark) (r : Reply) (u : T) : Type 0 where
    pub begun : T
    pub ticks : Ticks A t begun
    pub replied : Replied copies begun q mark r u

  pub record WaitsBy (t : T) (q : Request) (mark : Option Mark) (k : Key) (u : T) : Type 0 where
    pub begun : T
    pub ticks : Ticks A t begun
    pub awaits : Awaits begun q mark k u
