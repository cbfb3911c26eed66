-- What a pass is told of what was found for it.
use Rattle.std.specs.Prelude.{◌≡◌, ◌⊎◌, Bool, true}
use Rattle.eden_model.specs.declared.fault.Fault.TheVariants as fault
use Rattle.eden_model.specs.declared.reply.Reply.{Reply}
use Rattle.eden_model.specs.declared.reply.Reply.TheVariants as say
use Rattle.eden_model.specs.Requests.{has_payload}

-- the reply that was found; or, where replies are copied, want of memory in the place of one with a payload
abbrev pub Tells : Bool → Reply → Reply → Type 0
Tells copies found r = (r ≡ found) ⊎ ((copies ≡ true) × (has_payload found ≡ true) × (r ≡ say.Fault fault.Memory))
