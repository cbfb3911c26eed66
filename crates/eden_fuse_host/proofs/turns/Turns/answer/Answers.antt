use Rattle.std.proofs.Common.{◌≡◌, false, sym, ◌∙◌}
use Rattle.std.specs.Prelude.{◌&&◌}
use Rattle.eden_fuse_format.specs.Asked.{seen}
use Rattle.eden_fuse_session.specs.Turns.{told}
use Rattle.eden_fuse_host.specs.Turns.{Heeds}
use Rattle.eden_fuse_host.specs.Wants.{needs_its_look}
use Rattle.eden_fuse_host.proofs.Heeding.{not_first, not_second, shown, silent}
use Rattle.eden_fuse_host.proofs.Running.{runs_on}
use Rattle.eden_fuse_host.proofs.turns.Turns.answer.Goals as goal
use Rattle.eden_fuse_host.proofs.turns.Turns.answer.Goals.{else-faulted-via-then-faulted+else-needs_its_look, else-faulted-via-else-faulted}

-- it isn't refused
unrefused : (g : _) (c : goal.After-call g) → (c.args.faulted && needs_its_look (seen c.args.operation)) ≡ false
unrefused g c = elim c.else-faulted.branch [
  | else-faulted-via-then-faulted+else-needs_its_look w ↦
      not_second c.args.faulted (needs_its_look (seen c.args.operation)) (sym w.needs_its_look.ensures ∙ w.if-needs_its_look.false)
  | else-faulted-via-else-faulted w ↦ not_first c.args.faulted (needs_its_look (seen c.args.operation)) w.if-faulted.false
]

-- .. and was answered so
heeded : (g : _) (c : goal.After-call g) → Heeds g.W.World.honest g.W.World.opening g.W.World.numbers c.args.faulted c.self.inside.shown c.args.header
    (seen c.args.operation) (told c.call.result c.call.new.room.items) c.call.new.self
heeded g c = shown g.W.World.honest g.W.World.opening g.W.World.numbers c.self.inside.shown c.args.header (seen c.args.operation) c.args.faulted
    (told c.call.result c.call.new.room.items) c.call.new.self (unrefused g c) (sym c.is_interruption.ensures ∙ c.if-is_interruption.false) c.call.ensures.after

pub invariant_of-self : goal.invariant_of-self
invariant_of-self g c =
    runs_on g.W.World.honest g.W.World.opening g.W.World.numbers g.B.Begun.begun c.self.inside.shown c.call.new.self c.args.faulted c.args.header (seen c.args.operation)
    (told c.call.result c.call.new.room.items) c.self.invariant (heeded g c)

pub returns-clause-turn : goal.returns-clause-turn
returns-clause-turn g c = record {
  before = c.self.inside.shown;
  after = c.call.new.self;
  run = c.self.invariant;
  answered = heeded g c;
  silent = silent g.W.World.honest g.W.World.opening g.W.World.numbers c.args.faulted c.self.inside.shown c.call.new.self c.args.header (seen c.args.operation)
      (told c.call.result c.call.new.room.items) (heeded g c);
}
