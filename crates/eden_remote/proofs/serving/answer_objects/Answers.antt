use Rattle.std.proofs.Common.{◌≡◌, ◌+◌, ◌-◌, ◌≤◌, drop, length, sym, ◌∙◌, subst, inr, le_refl, length-take-le, length-drop, arith}
use Rattle.std.proofs.lemmas.Slice.{take-put_mid_below}
use borrow.Rule.Slice.PartMut.{put_mid}
use Rattle.eden_remote.specs.Protocol.{IsOneLine}
use Rattle.eden_remote.proofs.ServeLemmas.{SoFar, so_far_none, so_far_kept, so_far_buffer, so_far_answered, served_all, served_unwritten, buffer_kept}
use Rattle.eden_remote.proofs.serving.answer_objects.Goals as goal
use Rattle.eden_remote.proofs.serving.answer_objects.Goals.{in-Ok+in-Part, in-Ok+in-Asks+in-Ok-answer, in-Err+else-ne}

pub reads-init : goal.reads-init
reads-init g c = record { room = omega arith; short = omega arith; one = tt; so_far = so_far_none g.S.Source.fetched _ _ _ }

pub returns-in-Other : goal.returns-in-Other
returns-in-Other g c =
    let so = c.reads.invariant in
    let within : c.reads.len ≤ length c.reads.line = omega (arith, so.room, so.short) in
    served_all g.S.Source.fetched _ _ _ _ _ _ _
    (so_far_buffer g.S.Source.fetched _ _ _ _ _ _ _ c.reads.len (45 - c.reads.len) c.in-Ok.n c.reads.line c.read.new.buf so.so_far within c.in-Ok.ensures.bound.0 c.in-Ok.ensures.bytes.0)
    (inr c.in-Other.ensures)

pub returns-in-Err-answer : goal.returns-in-Err-answer
returns-in-Err-answer g c =
    let so = c.reads.invariant in
    let within : c.reads.len ≤ length c.reads.line = omega (arith, so.room, so.short) in
    let answered = c.in-Err-answer.ensures in
    served_unwritten g.S.Source.fetched _ _ _ _ _ _ _ _ _ c.in-Asks.id answered.answer answered.sent.0
    (so_far_buffer g.S.Source.fetched _ _ _ _ _ _ _ c.reads.len (45 - c.reads.len) c.in-Ok.n c.reads.line c.read.new.buf so.so_far within c.in-Ok.ensures.bound.0 c.in-Ok.ensures.bytes.0)
    c.in-Asks.ensures answered.told answered.sent.1

pub reads-preserved : goal.reads-preserved
reads-preserved g c =
    let so = c.reads.invariant in
    let at = c.reads.len in
    let left = 45 - c.reads.len in
    let line = c.reads.line in
    let new = c.read.new.buf in
    let within : at ≤ length line = omega (arith, so.room, so.short) in
    let whole : at + left ≡ length line = omega (arith, so.room, so.short) in
    let later = length-drop at line in
    let lent = length-take-le left (drop at line) (omega arith) in
    let size : length new ≡ left = c.read.auto.buf ∙ lent in
    let room : length (put_mid at left line new) ≡ 45 = buffer_kept at left line new whole size ∙ so.room in
    elim c.match-read.branch [
      | in-Ok+in-Part w ↦
          let n = w.in-Ok.n in
          let fits : n ≤ length new = w.in-Ok.ensures.bound.0 in
          let joined = length-take-le (at + n) (put_mid at left line new) (omega arith) in
          rw (w.writer-is, w.source-is, w.len-is) record {
            room = room;
            short = omega (arith, w.in-Part.ensures.1);
            one = w.in-Part.ensures.0;
            so_far = so_far_buffer g.S.Source.fetched _ _ _ _ _ _ _ at left n line new so.so_far within fits w.in-Ok.ensures.bytes.0;
          }
      | in-Ok+in-Asks+in-Ok-answer w ↦
          let answered = w.in-Ok-answer.ensures in
          let n = w.in-Ok.n in
          let fits : n ≤ length new = w.in-Ok.ensures.bound.0 in
          rw (w.writer-is, w.source-is, w.len-is) record {
            room = room;
            short = omega arith;
            one = tt;
            so_far = so_far_answered g.S.Source.fetched _ _ _ _ _ _ _ _ _ w.in-Asks.id answered.answer
                (so_far_buffer g.S.Source.fetched _ _ _ _ _ _ _ at left n line new so.so_far within fits w.in-Ok.ensures.bytes.0) w.in-Asks.ensures answered.told answered.sent;
          }
      | in-Err+else-ne w ↦
          let same = take-put_mid_below at left line new at (le_refl at) within in
          rw (w.writer-is, w.source-is, w.len-is) record {
            room = room;
            short = so.short;
            one = subst IsOneLine (sym same) so.one;
            so_far = so_far_kept g.S.Source.fetched _ _ _ _ _ _ _ _ (subst (SoFar g.S.Source.fetched _ _ _ _ _ _) (sym same) so.so_far) w.in-Err.ensures.bytes;
          }
    ]
