use Rattle.std.proofs.Common.{◌≡◌, true, false, arith}
use Rattle.std.proofs.lemmas.Map.Keys.{ge_from_not_lt}
use Rattle.eden_overlay.proofs.Walks.{none_in}
use Rattle.eden_overlay.proofs.rescan.after_met.Goals as goal

pub returns-in-Some-clause-above : goal.returns-in-Some-clause-above
returns-in-Some-clause-above c = λ k has.
    let least = ge_from_not_lt c.in-Some.last.now k (c.in-Some.ensures.greatest k has) in omega (arith, least)

pub returns-in-None-clause-above : goal.returns-in-None-clause-above
returns-in-None-clause-above c = λ k has.
    absurd (none_in c.args.met.now.keys k (λ more. let wrong : false ≡ true = c.in-None.ensures.variant.1 more in cc) has)
