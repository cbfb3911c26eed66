use Rattle.std.proofs.Common.{◌∙◌, ◌<◌, ◌∷◌, [], refl, sym, length-append, arith, subst}
use Rattle.std.specs.Prelude.{IfSome}
use Rattle.eden_model.specs.Histories.{Legal, entry}
use Rattle.eden_shared.specs.Calls.{AnswersTo}
use Rattle.eden_mount.proofs.CallerLemmas.{turn_stays}
use Rattle.eden_shared.proofs.Holding.{answered, grown, finished, tied_on}
use Rattle.eden_shared.proofs.locked.Locked.step.Goals as goal

pub returns-in-Done-clause-answers : goal.returns-in-Done-clause-answers
returns-in-Done-clause-answers g c =
    let m = c.self.inside.mount in let n = c.args.number in let done = c.in-Done.ensures in
    let pending = answered m _ c.self.invariant.terms n c.args.end.now.value c.requires.0 c.self.invariant.valued c.look.ensures.lane g.T.Attempts.table g.W.World.honest g.H.History.copies
    c.in-Done.number c.in-Done.reply c.turn.new.self done in
    let is = grown m _ c.self.invariant.terms n c.args.end.now.value c.requires.0 c.self.invariant.valued c.look.ensures.lane g.T.Attempts.table g.W.World.honest g.H.History.copies c.in-Done.number
    c.in-Done.reply c.turn.new.self done in
    let since : done.0.since < c.in-Done.number = (let begun = c.holds.ensures.since n done.0 done.1 in let number = done.2 in omega arith) in
    let N = g.W.World.numbers in
    subst (λ o. IfSome o (AnswersTo g.W.World.honest g.W.World.opening N n (record { number = c.in-Done.number; reply = c.in-Done.reply }))) (sym pending)
    ((m.history, length-append m.history (entry n done.0.request c.in-Done.reply ∷ []) ∙ sym done.2, λ honest. subst (Legal g.W.World.opening N) is (c.holds-in-Done.ensures.legal honest)), since)

pub invariant_of-self : goal.invariant_of-self
invariant_of-self g c =
    let m = c.self.inside.mount in let A = g.T.Attempts.table in
    tied_on A g.J.Naming.names c.self.inside.lanes.items c.change.new.lanes.items m c.turn.new.self
    (turn_stays A g.W.World.honest g.H.History.copies m c.turn.new.self c.args.number _ c.turn.ensures) c.self.invariant (c.change.ensures.names ∙ c.look.ensures.names)
    (finished m _ c.self.invariant.terms c.args.number c.look.new.end.value c.requires.0 (c.look.ensures.values ∙ c.self.invariant.valued) c.change.ensures.lane A g.W.World.honest g.H.History.copies
    c.in-Done.number c.in-Done.reply c.turn.new.self c.in-Done.ensures (record { number = c.in-Done.number; reply = c.in-Done.reply }) _ refl refl c.change.ensures.values)
