use Rattle.std.proofs.Common.{arith}
use Rattle.eden_remote.proofs.LineLemmas.{part_lacks, whole_line}
use Rattle.eden_remote.proofs.line.judge.Goals as goal

pub returns-else-is_one_line : goal.returns-else-is_one_line
returns-else-is_one_line c = λ digits more tail h e. absurd (grind (arith, c.if-is_one_line.ensures.1 (part_lacks c.args.bytes.now digits more tail h c.if-bytes-lt-LINE.true e)))

pub returns-in_default : goal.returns-in_default
returns-in_default c = λ digits more tail h e. c.in_default.ensures digits h (whole_line c.args.bytes.now digits more tail h (omega arith) e)
