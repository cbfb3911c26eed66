use Rattle.std.proofs.Common.{refl, arith}
use Rattle.eden_pack_format.proofs.ChunkLemmas.{later, none_left}
use Rattle.eden_pack_format.proofs.multi.find_chunk.Goals as goal

pub loop-next-preserved : goal.loop-next-preserved
loop-next-preserved c = λ begin end chunk. later chunk c.loop-next.next (c.loop-next.invariant begin end chunk) (c.in_default.ensures.absent refl) (omega arith)

pub returns-clause-absent : goal.returns-clause-absent
returns-clause-absent c = λ none begin end chunk. none_left chunk c.loop-next.next (c.loop-next.invariant begin end chunk) c.loop-next-test.false
