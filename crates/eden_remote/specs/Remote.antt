-- A server that is asked for objects.
use Rattle.std.specs.Prelude.{◌≡◌, ◌≤◌, ◌⊎◌, ℕ, Bool, true, false, List, length, take, Result, Ok, Err, IfOk}
use Rattle.std.specs.Io.KnownBytes.{Appends}
use Rattle.std.specs.declared.alloc.Global.{Global}
use Rattle.std.specs.declared.vec.Vec.{Vec}
use Rattle.hex.specs.Hex.{encode_lower}
use Rattle.eden_model.specs.declared.id.Id.{Id}
use Rattle.eden_model.specs.declared.fault.Cause.TheVariants as cause
use Rattle.eden_model.specs.Failures.{one_more}
use Rattle.eden_sockets.specs.declared.address.Address.{Address}
use Rattle.eden_object.specs.Frames.{longest_framed}
use Rattle.eden_source.specs.Fetching.{Answer}
use Rattle.eden_remote.specs.Protocol.{Known, get_line}
use Rattle.eden_remote.specs.Receiving.{Hears}
use Rattle.eden_remote.specs.declared.refusal.Refusal.{Refusal}
use Rattle.eden_remote.specs.declared.refusal.Refusal.TheVariants as refusal

-- its address, whether there is a connection to it, and how often it failed
pub record Server : Type 0 where
  pub address : Address
  pub connected : Bool
  pub failures : ℕ

-- after the bytes and `missing` alone the next answer can be asked for
abbrev pub keeps_connection : Answer → Bool
keeps_connection (Ok framed) = true
keeps_connection (Err cause.Missing) = true
keeps_connection (Err e) = false

-- the line that asks for the object of that id
abbrev pub line_for : Id → List ℕ
line_for id = get_line (encode_lower id.bytes)

-- over a connection, of which it is known what was written to it and what it still has to give, the whole line that asks
-- was sent and then an answer heard; or a write failed after a beginning of the line
abbrev pub AsksAndHears : {C : Type 0} → (C → Known) → (C → Known) → Id → C → Result (Vec ℕ Global) Refusal → C → Type 0
AsksAndHears {C} written left id old r new =
    ((asked : C) × Appends (written old) (written asked) (line_for id) × Hears (left asked) (left new) r)
    ⊎ ((r ≡ Err refusal.Failed) × (n : ℕ) × Appends (written old) (written new) (take n (line_for id)))

-- what is known of a real server: it stays where it is, each failure is counted once, and no answer is over the bound
pub record FetchedFromServer (old : Server) (id : Id) (answer : Answer) (new : Server) : Type 0 where
  pub address : new.address ≡ old.address
  pub connected : new.connected ≡ keeps_connection answer
  pub counted : answer ≡ Err cause.Device → new.failures ≡ one_more old.failures
  pub bounded : IfOk answer (λ framed. length framed ≤ longest_framed)
