use Rattle.std.specs.Prelude.{◌≡◌, length}
use Rattle.mountd.proofs.sources.object_sources.Given as goal

-- the sources so far
abbrev pub invariant-loop-made : goal.invariant-loop-made
invariant-loop-made l = length l.sources.items ≡ l._made
