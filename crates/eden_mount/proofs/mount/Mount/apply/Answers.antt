use Rattle.std.proofs.Common.{ℕ, List, sym, subst}
use Rattle.eden_mount.specs.declared.events.Event.{Event}
use Rattle.eden_mount.specs.declared.events.Outcome.TheVariants as outcome
use Rattle.eden_mount.specs.Steps.{Arrives}
use Rattle.eden_mount.specs.Events.{Steps, starts, turns, takes, arrives, fails, unloads, syncs}
use Rattle.eden_mount.proofs.mount.Mount.apply.Goals as goal

pub returns-in-Start : goal.returns-in-Start
returns-in-Start g c =
    let P : Event → Type 0 = λ e. Steps g.T.Attempts.table g.W.World.honest g.H.History.copies c.args.self.now c.start.new.self e (outcome.Start c.start.result) in
    subst P (sym c.in-Start.is) (starts c.in-Start.pass c.in-Start.request c.start.result c.start.ensures)

pub returns-in-Turn : goal.returns-in-Turn
returns-in-Turn g c =
    let P : Event → Type 0 = λ e. Steps g.T.Attempts.table g.W.World.honest g.H.History.copies c.args.self.now c.turn.new.self e (outcome.Turn c.turn.result) in
    subst P (sym c.in-Turn.is) (turns c.in-Turn.pass c.turn.result c.turn.ensures)

pub returns-in-Take : goal.returns-in-Take
returns-in-Take g c =
    let P : Event → Type 0 = λ e. Steps g.T.Attempts.table g.W.World.honest g.H.History.copies c.args.self.now c.take_want.new.self e (outcome.Take c.take_want.result) in
    subst P (sym c.in-Take.is) (takes c.take_want.result c.take_want.ensures)

pub returns-in-Arrive : goal.returns-in-Arrive
returns-in-Arrive g c =
    let P : Event → Type 0 = λ e. Steps g.T.Attempts.table g.W.World.honest g.H.History.copies c.args.self.now c.arrive.new.self e (outcome.Arrive c.arrive.result) in
    let Q : List ℕ → Type 0 = λ bytes. Arrives g.T.Attempts.table c.args.self.now c.in-Arrive.key bytes c.arrive.result c.arrive.new.self in
    subst P (sym c.in-Arrive.is) (arrives c.in-Arrive.key c.in-Arrive.framed c.arrive.result (subst Q c.into_vec.ensures c.arrive.ensures))

pub returns-in-Fail : goal.returns-in-Fail
returns-in-Fail g c =
    let P : Event → Type 0 = λ e. Steps g.T.Attempts.table g.W.World.honest g.H.History.copies c.args.self.now c.fail.new.self e (outcome.Fail c.fail.result) in
    subst P (sym c.in-Fail.is) (fails c.in-Fail.key c.in-Fail.cause c.fail.result c.fail.ensures)

pub returns-in-Unload : goal.returns-in-Unload
returns-in-Unload g c =
    let P : Event → Type 0 = λ e. Steps g.T.Attempts.table g.W.World.honest g.H.History.copies c.args.self.now c.unload.new.self e (outcome.Unload c.unload.result) in
    subst P (sym c.in-Unload.is) (unloads c.in-Unload.path c.in-Unload.older_than c.unload.result c.unload.ensures)

pub returns-in-Sync : goal.returns-in-Sync
returns-in-Sync g c =
    let P : Event → Type 0 = λ e. Steps g.T.Attempts.table g.W.World.honest g.H.History.copies c.args.self.now c.sync.new.self e (outcome.Sync c.sync.result) in
    subst P (sym c.in-Sync.is) (syncs c.sync.result c.sync.ensures)
