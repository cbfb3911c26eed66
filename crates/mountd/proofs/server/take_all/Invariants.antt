use Rattle.std.specs.Prelude.{◌≡◌, ◌++◌, length}
use Rattle.std.specs.Vec.Iter.{into_iter_items}
use Rattle.mountd.proofs.server.take_all.Given as goal

-- the connections so far, and the sources that are left
abbrev pub invariant-loop-source : goal.invariant-loop-source
invariant-loop-source g l = record { workers : length l.workers.items ≡ length l.yielded; sources : l.fn.sources.items ≡ l.yielded ++ into_iter_items l.source-iterator }
