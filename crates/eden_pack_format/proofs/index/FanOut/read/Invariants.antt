use Rattle.std.proofs.Common.{◌≤◌, ◌<◌, ◌+◌, ℕ}
use Rattle.eden_pack_format.specs.Indexes.{count}
use Rattle.eden_pack_format.proofs.index.FanOut.read.Given as goal

abbrev pub invariant-loop-first : goal.invariant-loop-first
invariant-loop-first l = (n : ℕ) → n < l.first → count l.counts n ≤ count l.counts (n + 1)
