use Rattle.std.specs.Prelude.{◌≡◌, ◌++◌, length}
use Rattle.std.specs.Vec.Iter.{into_iter_items}
use Rattle.mountd.specs.Workers.{HaveEnded}
use Rattle.mountd.proofs.server.join_all.Given as goal

-- the connections so far, and the workers that are left
abbrev pub invariant-loop-worker : goal.invariant-loop-worker
invariant-loop-worker g l = record {
  ended : HaveEnded g.I.Read g.O.Write (length l.yielded) l.ended;
  workers : l.fn.workers.items ≡ l.yielded ++ into_iter_items l.worker-iterator;
}
