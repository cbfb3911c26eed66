use Rattle.std.proofs.Common.{◌≡◌, ◌+◌, ◌≤◌, ◌++◌, ◌∷◌, [], Some, None, refl, sym, ap, ◌∙◌, subst, arith}
use Rattle.std.specs.Prelude.{IfSome}
use Rattle.eden_shared.specs.declared.account.Account.{Account}
use Rattle.eden_shared.specs.Accounts.{told_as, account, pended}
use Rattle.eden_shared.specs.Answers.{after_answer}
use Rattle.eden_shared.specs.Calls.{AnswersTo, Grows}
use Rattle.eden_shared.specs.Passes.{Carried, carried, Rises}
use Rattle.eden_shared.proofs.Rising.{rises_push}
use Rattle.eden_shared.proofs.pass.Pass.call.Goals as goal

pub invariant_of-self-2 : goal.invariant_of-self-2
invariant_of-self-2 g c =
    let here = c.self.inside in let p = pended c.args.request c.in_ok-since.since in let a = c.wait_for-answer.result in let began = c.in_ok-since.ensures in
    let says : c.wait_for-answer.new.end.value ≡ account here.end.value.terms None (here.end.value.told ++ told_as a.number p.request a.reply ∷ []) = c.wait_for-answer.ensures.account
    ∙ ap (after_answer a) began.pending in
    let answers : AnswersTo g.W.World.honest g.W.World.opening g.W.World.numbers here.number a p = subst
    (λ (x : Account). IfSome x.pending (AnswersTo g.W.World.honest g.W.World.opening g.W.World.numbers here.number a)) began.pending c.wait_for-answer.ensures.answers in
    let later : here.known + 1 ≤ a.number = (let from = began.known in let behind = answers.1 in omega arith) in (
      (c.self.invariant.0.0, c.self.invariant.0.1 ∙ ap Some (sym (c.wait_for-answer.ensures.name ∙ began.name))),
      ap (λ (x : Account). x.pending) says,
      subst (λ (x : Account). Rises 1 x.told (a.number + 1)) (sym says)
          (rises_push 1 here.end.value.told (here.known + 1) a.number p.request a.reply later c.self.invariant.2),
    )

pub returns-clause-ok : goal.returns-clause-ok
returns-clause-ok g c =
    let here = c.self.inside in let p = pended c.args.request c.in_ok-since.since in let a = c.wait_for-answer.result in let began = c.in_ok-since.ensures in
    let says : c.wait_for-answer.new.end.value ≡ account here.end.value.terms None (here.end.value.told ++ told_as a.number p.request a.reply ∷ []) = c.wait_for-answer.ensures.account
    ∙ ap (after_answer a) began.pending in
    let answers : AnswersTo g.W.World.honest g.W.World.opening g.W.World.numbers here.number a p = subst
    (λ (x : Account). IfSome x.pending (AnswersTo g.W.World.honest g.W.World.opening g.W.World.numbers here.number a)) began.pending c.wait_for-answer.ensures.answers in
    let after : Carried = carried c.wait_for-answer.new.end.value.terms here.number (a.number + 1) c.wait_for-answer.new.end.value.told in
    let grows : Grows g.W.World.honest g.W.World.opening g.W.World.numbers (carried here.end.value.terms here.number (here.known + 1) here.end.value.told)
    (told_as a.number p.request a.reply) after = record {
      later = let from = began.known in let behind = answers.1 in omega arith;
      stands = answers.0;
      is = ap (λ (x : Account). carried x.terms here.number (a.number + 1) x.told) says;
    } in
    subst (λ x. Grows g.W.World.honest g.W.World.opening g.W.World.numbers x (told_as a.number c.args.request a.reply) after) c.self.view_is grows
