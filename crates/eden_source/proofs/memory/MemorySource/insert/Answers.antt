use Rattle.eden_source.proofs.Held.{Puts-objects_of, HoldsHonest-puts}
use Rattle.eden_source.proofs.memory.MemorySource.insert.Goals as goal

pub invariant_of-self-2 : goal.invariant_of-self-2
invariant_of-self-2 g c = λ honest.
    let puts = Puts-objects_of c.self.inside.objects c.insert.new.self c.args.id c.args.framed c.in_ok-insert.ensures.updates in
    HoldsHonest-puts _ _ _ c.args.id c.args.framed.items (c.self.invariant honest) puts (c.requires honest)

pub returns-clause-ok : goal.returns-clause-ok
returns-clause-ok g c =
    rw (← c.self.view_is) (Puts-objects_of c.self.inside.objects c.insert.new.self c.args.id c.args.framed c.in_ok-insert.ensures.updates)
