use Rattle.std.proofs.Common.{◌≡◌, false, cond, sym, ap, ◌∙◌}
use Rattle.eden_import.specs.Queue.{Queue, stands, want_of, wants_key}
use Rattle.eden_import.specs.declared.imports.Wanted.{Wanted}
use Rattle.eden_import.specs.declared.imports.Wanted.TheVariants.{Joined, Queued}
use Rattle.eden_import.proofs.PassLemmas.{stands_own}
use Rattle.eden_import.proofs.imports.Imports.await_key.Goals as goal
use Rattle.eden_import.proofs.imports.Imports.await_key.Goals.{then-not-waits, else-not-waits}

pub returns-clause-answer : goal.returns-clause-answer
returns-clause-answer g c =
    let told : Queue → Wanted = λ q. cond (stands c.args.key q) Joined Queued in
    c.want.ensures.answer ∙ elim c.if-not-waits.branch [
      | then-not-waits w ↦
          let other : wants_key c.args.key (want_of c.args.pass c.args.self.now) ≡ false = ap (wants_key c.args.key) (sym c.wanted.ensures.value) ∙ sym c.is_for-waits.ensures ∙ w.if-not-waits.true in
          ap told (w.self-is ∙ w.leave_own.ensures.step) ∙ ap (λ b. cond b Joined Queued) (stands_own c.args.key c.args.pass c.args.self.now other)
      | else-not-waits w ↦ ap told w.self-is
    ]
