use Rattle.std.proofs.Common.{subst}
use Rattle.mountd.specs.Taking.{Tells}
use Rattle.mountd.proofs.changes.run.Goals as goal

pub returns : goal.returns
returns g c =
    let looked = c.args.looked in
    let told = c.tell-outcome in
    record {
      left = told.new.overlay;
      filled = told.new.sink;
      outcome = told.result;
      tells = subst (λ F. Tells g.W.World g.F.Files g.C.ChangeSink looked.is_running looked.root F told.new.overlay c.args.sink
          told.new.sink told.result) c.new-overlay.ensures told.ensures;
      written = c.write_out-written.result;
      done = c.write_out-written.new.self;
      wrote = c.write_out-written.ensures;
      told = c.taken.ensures;
    }
