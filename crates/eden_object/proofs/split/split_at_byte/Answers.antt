use Rattle.std.proofs.Common.{subst, arith}
use Rattle.std.proofs.lemmas.List.{take_all}
use Rattle.eden_object.proofs.Cuts.{Lacks, Lacks-take_more, cut_here}
use Rattle.eden_object.proofs.split.split_at_byte.Goals as goal

pub returns-then-b-separator : goal.returns-then-b-separator
returns-then-b-separator c = (c.loop-i.invariant, cut_here c.args.separator c.args.bytes.now c.loop-i.i c.loop-i-test.true c.if-b-separator.true)

pub loop-i-preserved : goal.loop-i-preserved
loop-i-preserved c = Lacks-take_more c.args.separator c.args.bytes.now c.loop-i.i c.loop-i-test.true c.if-b-separator.false c.loop-i.invariant

pub returns : goal.returns
returns c = subst (Lacks c.args.separator) (take_all c.loop-i.i c.args.bytes.now (omega arith)) c.loop-i.invariant
