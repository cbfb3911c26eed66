use Rattle.std.proofs.Common.{◌+◌, ◌≤◌, length, sym, subst, arith}
use Rattle.std.specs.List.{AllByRecursion}
use Rattle.eden_shared.specs.declared.account.Told.{Told}
use Rattle.eden_shared.proofs.Accounting.{told_within}
use Rattle.eden_shared.proofs.Holding.{known}
use Rattle.eden_shared.proofs.locked.Locked.admit.Goals as goal

pub returns-then-known-length-clause-why : goal.returns-then-known-length-clause-why
returns-then-known-length-clause-why g c =
    let m = c.self.inside.mount in
    let v = c.args.end.now.value in
    let is = known m _ c.self.invariant.terms c.args.number v c.requires.lane.0 c.self.invariant.valued c.look.ensures.lane in
    let all : AllByRecursion (λ (t : Told). t.number ≤ c.entries-length.result) v.told = subst (AllByRecursion (λ (t : Told). t.number ≤ c.entries-length.result)) (sym is.1)
    (told_within c.args.number 1 c.entries-length.result m.history (let e = c.entries-length.ensures in omega arith)) in
    (c.saturating_add-floor.ensures, omega (arith, c.if-known-length.true), all)
