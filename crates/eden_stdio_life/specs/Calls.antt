-- What a session is told of one caller's requests.
use Rattle.std.specs.Prelude.{◌≡◌, ◌⊎◌, ℕ, Bool, Option, Some, None, Result, Ok, Err}
use Rattle.eden_model.specs.declared.fault.CallFault.{CallFault}
use Rattle.eden_model.specs.declared.fault.CallFault.TheVariants as call
use Rattle.eden_model.specs.declared.fault.StartFault.{StartFault}
use Rattle.eden_model.specs.declared.fault.StartFault.TheVariants as start
use Rattle.eden_model.specs.declared.id.Id.{Id}
use Rattle.eden_model.specs.declared.request.Request.{Request}
use Rattle.eden_model.specs.declared.reply.Reply.{Reply}
use Rattle.eden_source.specs.Fetching.{Answer}
use Rattle.eden_mount.specs.Tables.{Table}
use Rattle.eden_mount.specs.Serving.{Desk, Lends, Declines}

-- What one caller may be told of a request, if the history may have this many entries: a reply, or that the request wasn't
-- taken, since the history is full or there is no memory. None is a request that the mount wasn't asked, for want of memory.
abbrev pub MayBeTold : ℕ → Option (Result Reply CallFault) → Type 0
MayBeTold limit None = Unit {0}
MayBeTold limit (Some (Ok reply)) = Unit {0}
MayBeTold limit (Some (Err fault)) = (fault ≡ call.Start (start.HistoryFull limit)) ⊎ (fault ≡ call.Start start.Memory)

module _ {S : Type 0} (fetched : S → Id → Answer → S → Type 0) {T : Type 0} (A : Table T) (honest : Type 0) (copies : Bool) where
  -- a request was served, and its reply lies there; or the mount didn't take it, and nothing changed
  abbrev pub CallAnswers : Desk T S → Request → Result Reply CallFault → Desk T S → Type 0
  CallAnswers old q (Ok reply) new = Lends fetched A honest copies q old reply new
  CallAnswers old q (Err fault) new = (why : StartFault) × (fault ≡ call.Start why) × Declines old why new
