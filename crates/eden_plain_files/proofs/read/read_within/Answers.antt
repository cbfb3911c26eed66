use Rattle.std.proofs.Common.{arith}
use Rattle.eden_plain_files.proofs.Reading.{whole_within}
use Rattle.eden_plain_files.proofs.read.read_within.Goals as goal

pub returns-clause-whole : goal.returns-clause-whole
returns-clause-whole g c =
    whole_within _ c.args.longest c.read_to_end.new.buf.items (rw (c.in_ok-bytes.ensures.items, c.take-reader.ensures.limit, c.take-reader.ensures.inner) at c.in_ok-read_to_end.ensures.bytes)
    (omega arith)
