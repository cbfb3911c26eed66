use Rattle.std.proofs.Common.{◌∙◌, length, sym, ap}
use Rattle.eden_mount.proofs.CallerLemmas.{start_stays}
use Rattle.eden_shared.specs.Accounts.{pended}
use Rattle.eden_shared.proofs.Holding.{refusal, started, tied_on}
use Rattle.eden_shared.proofs.locked.Locked.begin.Goals as goal

pub returns-in-Err-clause-why : goal.returns-in-Err-clause-why
returns-in-Err-clause-why g c =
    refusal c.self.inside.mount _ c.self.invariant.terms c.args.number c.args.end.now.value c.requires.lane.0 c.self.invariant.valued c.look.ensures.lane g.T.Attempts.table g.W.World.honest
    g.W.World.opening g.W.World.numbers
    c.holds.ensures c.self.invariant.kept c.requires.free c.in-Err.fault c.in-Err.ensures.0

pub invariant_of-self-in-Ok : goal.invariant_of-self-in-Ok
invariant_of-self-in-Ok g c =
    let m = c.self.inside.mount in let A = g.T.Attempts.table in
    tied_on A g.J.Naming.names c.self.inside.lanes.items c.change.new.lanes.items m c.start.new.self (start_stays A m c.start.new.self c.args.number c.args.request _ c.start.ensures)
    c.self.invariant (c.change.ensures.names ∙ c.look.ensures.names)
    (started m _ c.self.invariant.terms c.args.number c.look.new.end.value c.requires.lane.0
    (c.look.ensures.values ∙ c.self.invariant.valued) c.change.ensures.lane (pended c.of-asked.result.value c.args.since) c.args.request c.start.new.self _ c.of-asked.ensures
    (c.requires.since ∙ sym (ap (λ l. length l.mount.history) c.self.view_is)) c.in-Ok.ensures.2 c.change.ensures.values)
