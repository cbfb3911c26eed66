use Rattle.eden_wire.proofs.RunLemmas.{through_none, through_kept, through_more, through_short}
use Rattle.eden_wire.proofs.RunLemmas.{session_none, session_end, session_bad, session_unwritten, session_unread}
use Rattle.eden_wire.proofs.serving.session.Goals as goal
use Rattle.eden_wire.proofs.serving.session.Goals.{in-Ok-read+in-Ok-true, in-Err+else-ne}

pub returns-in_default : goal.returns-in_default
returns-in_default g c = session_none

pub returns-in_default-new : goal.returns-in_default-new
returns-in_default-new g c = session_none

pub reads-init : goal.reads-init
reads-init g c = through_none c.in-Ok-new.ensures c.in-Ok.ensures

pub read-requires : goal.read-requires
read-requires g c = through_short c.reads.invariant

pub returns-in-Ok-eq0 : goal.returns-in-Ok-eq0
returns-in-Ok-eq0 g c = session_end c.reads.invariant c.in-Ok-eq0.ensures c.in-Ok-eq0.field-0-test (rw c.as_slice.ensures at c.end.ensures)

pub returns-in-Ok-false : goal.returns-in-Ok-false
returns-in-Ok-false g c =
    let bad = rw (c.as_slice-bytes.ensures, c.in-Ok-false.is, c.in-Ok-false.field-0-test) at c.answer_piece-used.ensures.answered in
    session_bad (through_more c.reads.invariant c.in-Ok-read.ensures bad)

pub returns-in-Err-outcome : goal.returns-in-Err-outcome
returns-in-Err-outcome g c =
    let failed = rw (c.as_slice-bytes.ensures, c.in-Err-outcome.is) at c.answer_piece-used.ensures.answered in
    session_unwritten (through_more c.reads.invariant c.in-Ok-read.ensures failed)

pub returns-then-ne : goal.returns-then-ne
returns-then-ne g c = session_unread (through_kept c.reads.invariant c.in-Err.ensures.0)

pub returns : goal.returns
returns g c = session_unread c.reads.invariant

pub reads-preserved : goal.reads-preserved
reads-preserved g c = elim c.match-read.branch [
  | in-Ok-read+in-Ok-true w ↦
      let answered = rw (w.as_slice-bytes.ensures, w.in-Ok-true.is, w.in-Ok-true.field-0-test) at w.answer_piece-used.ensures.answered in
      rw (w.writer-is, w.service-is, w.input-is, w.output-is, w.drop_front.ensures) (through_more c.reads.invariant w.in-Ok-read.ensures answered)
  | in-Err+else-ne w ↦
      rw (w.writer-is, w.service-is, w.input-is, w.output-is, w.in-Err.ensures.1) (through_kept c.reads.invariant w.in-Err.ensures.0)
]
