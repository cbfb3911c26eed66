use Rattle.std.proofs.Common.{◌≢◌, [], ◌∷◌, Some, None, Result, Ok, Err, subst, refl}
use Rattle.std.specs.Borrow.{Bor}
use Rattle.eden_model.specs.declared.request.Request.{Request}
use Rattle.eden_model.specs.declared.reply.Reply.{Reply}
use Rattle.eden_model.specs.declared.fault.CallFault.{CallFault}
use Rattle.eden_wire.specs.Lines.{IsLine}
use Rattle.eden_wire.specs.Serving.{answered}
use Rattle.eden_wire.specs.declared.request.Item.TheVariants.{Asks, Bad}
use Rattle.eden_wire.proofs.SessionLemmas.{turn_of}
use Rattle.eden_wire.proofs.serving.answer.Given.{Over}
use Rattle.eden_wire.proofs.serving.answer.Goals as goal
use Rattle.eden_wire.proofs.serving.answer.Goals.{In-Ok-Asks}

-- the line is the request that the service is asked
asked : (g : Over) (c : In-Ok-Asks g) → IsLine c.args.line.now (Asks c.in-Ok-Asks.request)
asked g c = (c.requires.one, c.requires.short, rw c.in-Ok-Asks.field-0-is at c.in-Ok-Asks.ensures.item)

goes_on : {q : Request} → Asks q ≢ Bad
goes_on e = cc

pub returns-in-Err : goal.returns-in-Err
returns-in-Err g c =
    let memory = c.in-Err.ensures.memory in
    let is_line : IsLine c.args.line.now (Asks memory.0) = (c.requires.one, c.requires.short, memory.1) in
    turn_of (Asks memory.0) (None ∷ []) goes_on is_line refl refl c.put_call_fault.ensures

pub returns-in-Ok : goal.returns-in-Ok
returns-in-Ok g c =
    let request = c.in-Ok-Asks.request in
    let served = λ (r : Result (Bor Reply) CallFault). g.S.Service.answers c.args.service.now request (answered r) c.call.follows.lender-at-none in
    let told = subst served c.in-Ok.is c.call.follows.holds-at-none in
    let is_line = asked g (goal.at.returns-in-Ok g c).In-Ok-Asks in
    turn_of (Asks request) (Some (Ok c.in-Ok.reply.now) ∷ []) goes_on is_line refl (_, told, refl) c.put_reply.ensures

pub returns-in-Err-call : goal.returns-in-Err-call
returns-in-Err-call g c =
    let request = c.in-Ok-Asks.request in
    let served = λ (r : Result (Bor Reply) CallFault). g.S.Service.answers c.args.service.now request (answered r) c.call.follows.lender-at-none in
    let told = subst served c.in-Err-call.is c.call.follows.holds-at-none in
    let is_line = asked g (goal.at.returns-in-Err-call g c).In-Ok-Asks in
    turn_of (Asks request) (Some (Err c.in-Err-call.fault) ∷ []) goes_on is_line refl (_, told, refl) c.put_call_fault-in-Err-call.ensures
