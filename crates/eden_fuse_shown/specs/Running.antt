-- What a message comes to: each step's request is made of the mount, and its reply leads to the next step.
use Rattle.std.specs.Prelude.{◌≡◌, ◌⊎◌, Bool, List, [], ◌∷◌, Result, Ok, Err}
use Rattle.eden_model.specs.declared.fault.CallFault.{CallFault}
use Rattle.eden_model.specs.declared.request.Request.{Request}
use Rattle.eden_model.specs.declared.fault.Fault.TheVariants as fault
use Rattle.eden_model.specs.declared.reply.Reply.{Reply}
use Rattle.eden_model.specs.declared.reply.Reply.TheVariants as say
use Rattle.eden_fuse_meaning.specs.declared.step.Outcome.{Outcome}
use Rattle.eden_fuse_meaning.specs.declared.step.Step.{Step}
use Rattle.eden_fuse_meaning.specs.declared.step.Step.TheVariants.{Ask, Tell}
use Rattle.eden_fuse_meaning.specs.Steps.{next}
use Rattle.eden_fuse_shown.specs.declared.mount.Unheard.{Unheard}
use Rattle.eden_fuse_shown.specs.declared.mount.Unheard.TheVariants as unheard

-- what a mount may reply: its state before, the request, what it said, its state after
abbrev pub Replying : Type 0 → Type 1
Replying S = S → Request → Result Reply CallFault → S → Type 0

-- how it may wait for the disk: its state before, whether nothing that it replied to could be lost any more, its state after
abbrev pub Syncing : Type 0 → Type 1
Syncing S = S → Bool → S → Type 0

-- what may be heard of the reply that stored files failed
abbrev pub IsUnstored : Result Reply Unheard → Type 0
IsUnstored (Ok reply) = reply ≡ say.Fault fault.Overlay
IsUnstored (Err (unheard.Blocked obstacle)) = Unit {0}
IsUnstored (Err why) = ⊥

module _ {S : Type 0} (answers : Replying S) where
  -- what was heard of a request: the reply, a fault in its place, what kept the device from storing where the reply was that stored
  -- files failed, or nothing, since there was no memory for the reply
  abbrev pub Hears : S → Request → Result Reply Unheard → S → Type 0
  Hears s q (Ok reply) t = answers s q (Ok reply) t
  Hears s q (Err (unheard.Fault fault)) t = answers s q (Err fault) t
  Hears s q (Err (unheard.Blocked obstacle)) t = answers s q (Ok (say.Fault fault.Overlay)) t
  Hears s q (Err unheard.Memory) t = (reply : Reply) × answers s q (Ok reply) t

  -- a step, these replies and no others after it, and what it came to: an outcome, or that the mount wasn't heard, or that there
  -- was no memory for the next request
  abbrev pub Leads : Step → List Reply → S → Result Outcome Unheard → S → Type 0
  Leads (Tell o) [] s r t = (t ≡ s) × (r ≡ Ok o)
  Leads (Tell o) (reply ∷ replies) s r t = ⊥
  Leads (Ask q awaited) [] s r t = (why : Unheard) × Hears s q (Err why) t × (r ≡ Err why)
  Leads (Ask q awaited) (reply ∷ replies) s r t = (u : S) × Hears s q (Ok reply) u
      × (Leads (next awaited reply) replies u r t ⊎ ((replies ≡ []) × (t ≡ u) × (r ≡ Err unheard.Memory)))

  abbrev pub Comes : Step → S → Result Outcome Unheard → S → Type 0
  Comes step s r t = (replies : List Reply) × Leads step replies s r t
