-- What the slow oracle answers as a service.
use Rattle.std.specs.Prelude.{◌≡◌, Option, Some, None, Result, Ok, Err}
use Rattle.eden_model.specs.declared.fault.CallFault.{CallFault}
use Rattle.eden_model.specs.declared.fault.CallFault.TheVariants as call
use Rattle.eden_model.specs.declared.fault.StartFault.TheVariants as start
use Rattle.eden_model.specs.declared.reply.Reply.{Reply}
use Rattle.eden_model.specs.declared.request.Request.{Request}
use Rattle.eden_oracle.specs.Tables.{Table, Steps}

-- the table's reply, and the tree and the numbers after it; `stopped` if there is none; for want of memory nothing happens
abbrev pub Answers : Table → Request → Result Reply CallFault → Table → Type 0
Answers old q (Ok r) new = Steps old new q (Some r)
Answers old q (Err call.Stopped) new = Steps old new q None
Answers old q (Err (call.Start f)) new = (f ≡ start.Memory) × (new ≡ old)
Answers old q (Err (call.Foreign floor len)) new = ⊥
