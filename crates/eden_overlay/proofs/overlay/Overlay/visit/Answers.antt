use Rattle.std.proofs.Common.{Err, List, sym, ap, subst, nat_cmp}
use Rattle.std.specs.BTreeSet.{contains}
use Rattle.eden_overlay.specs.declared.rescan.Pending.{Pending}
use Rattle.eden_overlay.specs.Rescanning.{IsRescanFault}
use Rattle.eden_overlay.specs.Walking.{Walked}
use Rattle.eden_overlay.proofs.Accusing.{entry_fault}
use Rattle.eden_overlay.proofs.Walks.{twice_at, top_entry, top_is, walked_on, one_more_key, few_keys, was_there, was_absent}
use Rattle.eden_overlay.proofs.overlay.Overlay.visit.Goals as goal

pub returns-then-not-branch-clause-refused : goal.returns-then-not-branch-clause-refused
returns-then-not-branch-clause-refused g c = λ root walked honest.
    twice_at _ root c.args.pending.now.items c.args.entry _ (walked honest) (was_there _ _ c.in_ok-insert.ensures.added c.if-not-branch.true)

pub returns-in-Err-clause-refused : goal.returns-in-Err-clause-refused
returns-in-Err-clause-refused g c = λ root walked.
    let honest = g.W.World.honest in
    let F = g.F.Files.stored c.args.self.now in
    let old = g.F.Files.failures c.args.self.now in
    let new = g.F.Files.failures c.below.new.self in
    subst (IsRescanFault honest F root old new) (sym c.fault_of.ensures)
    (entry_fault honest F root old new c.args.entry c.in-Err.fault (λ is. c.in-Err.ensures.counted.rose (ap Err is)) c.in-Err.ensures.refused
    (λ yes. (top_entry F root c.args.pending.now.items c.args.entry _ (walked yes), top_is F root c.args.pending.now.items c.args.entry _ (walked yes))))

pub returns-clause-walked : goal.returns-clause-walked
returns-clause-walked g c = λ honest root walked.
    let F = g.F.Files.stored c.args.self.now in
    let after = contains nat_cmp c.insert.new.self in
    let P : List Pending → Type 0 = λ l. Walked F root l after in
    subst P (sym c.in_ok-append-in-Ok.ensures.items)
    (walked_on F root c.args.pending.now.items c.args.entry (contains nat_cmp c.args.met.now) walked after c.in-Ok.below.items
    (was_absent _ _ c.in_ok-insert.ensures.added c.if-not-branch.false)
    (one_more_key c.args.met.now c.insert.new.self c.args.entry.number c.in_ok-insert.ensures.updates) (c.in-Ok.ensures.held honest))

pub returns-clause-few : goal.returns-clause-few
returns-clause-few g c =
    few_keys c.args.met.now c.insert.new.self c.args.entry.number c.in_ok-insert.ensures.updates c.insert.ensures.ordered c.requires.range c.requires.met
