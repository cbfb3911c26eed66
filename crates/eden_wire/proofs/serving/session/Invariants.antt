use Rattle.std.proofs.Common.{Ok, true}
use Rattle.std.specs.Prelude.{slice_range}
use Rattle.eden_wire.proofs.RunLemmas.{Through}
use Rattle.eden_wire.proofs.serving.session.Given as goal

abbrev pub invariant-reads : goal.invariant-reads
invariant-reads g l = Through g.S.Service.answers (l.fn.service, l.service) (g.R.Read.remaining l.fn.reader, g.R.Read.remaining l.reader)
    (g.W.Write.contents l.fn.writer, g.W.Write.contents l.writer) l.output (slice_range l.input.room.items l.input.start l.input.stop) (Ok true)
