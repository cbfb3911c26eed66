use Rattle.std.proofs.Common.{◌<◌, length, drop, arith, sym, length-drop}
use Rattle.std.proofs.lemmas.List.{drop_all}
use Rattle.eden_wire.specs.Lines.{longest_line, IsOneLine}
use Rattle.eden_wire.proofs.Slices.{slice-end}
use Rattle.eden_wire.proofs.SessionLemmas.{lined_none, lined_more, run_badly, run_false, run_failed, run_on, long_line, long_rest}
use Rattle.eden_wire.proofs.serving.answer_lines.Given.{Over}
use Rattle.eden_wire.proofs.serving.answer_lines.Goals as goal
use Rattle.eden_wire.proofs.serving.answer_lines.Goals.{Left-lines, else-lines-test, then-lines-test+in_default}

pub lines-init : goal.lines-init
lines-init g c = record { room = omega arith; within = omega arith; skips = c.requires.within; none = c.requires.none; so_far = lined_none }

pub returns-then-len-gt-LONGEST_LINE-clause-answered : goal.returns-then-len-gt-LONGEST_LINE-clause-answered
returns-then-len-gt-LONGEST_LINE-clause-answered g c =
    let found = rw slice-end at c.in-Some.ensures in
    run_badly c.lines.invariant.so_far (long_line _ _ found c.if-len-gt-LONGEST_LINE.true) c.put_error.ensures

pub returns-then-not-answer-clause-answered : goal.returns-then-not-answer-clause-answered
returns-then-not-answer-clause-answered g c =
    run_false c.lines.invariant.so_far (rw slice-end at c.in-Some.ensures) (rw slice-end at c.if-not-answer.ensures)

pub returns-then-has_failed-clause-answered : goal.returns-then-has_failed-clause-answered
returns-then-has_failed-clause-answered g c =
    let more = lined_more c.lines.invariant.so_far (rw slice-end at c.in-Some.ensures) (rw slice-end at c.if-not-answer.ensures) in
    run_failed more (sym c.if-has_failed.ensures)

pub lines-preserved : goal.lines-preserved
lines-preserved g c =
    let found = rw slice-end at c.in-Some.ensures in
    record {
      room = omega (arith, c.lines.invariant.room);
      within = omega (arith, found.inside, length-drop c.lines.used c.args.bytes.now, c.lines.invariant.within);
      skips = omega arith;
      none = tt;
      so_far = lined_more c.lines.invariant.so_far found (rw slice-end at c.if-not-answer.ensures);
    }

-- no line feed stands among what is left when the loop ends
rest_is_one : (g : Over) (c : Left-lines g) → IsOneLine (drop c.lines.used c.args.bytes.now)
rest_is_one g c = elim c.lines-test.branch [
  | else-lines-test w ↦ rw (drop_all c.lines.used c.args.bytes.now (omega (arith, c.lines.invariant.room))) tt
  | then-lines-test+in_default w ↦ rw slice-end at w.in_default.ensures
]

pub returns-then-bytes-used-gt-LONGEST_LINE-clause-answered : goal.returns-then-bytes-used-gt-LONGEST_LINE-clause-answered
returns-then-bytes-used-gt-LONGEST_LINE-clause-answered g c =
    let long : longest_line < length (drop c.lines.used c.args.bytes.now) = rw length-drop c.if-bytes-used-gt-LONGEST_LINE.true in
    let one = rest_is_one g (goal.at.returns-then-bytes-used-gt-LONGEST_LINE-clause-answered g c).Left-lines in
    run_badly c.lines.invariant.so_far (long_rest _ one long) c.put_error-then-bytes-used-gt-LONGEST_LINE.ensures

pub returns-clause-answered : goal.returns-clause-answered
returns-clause-answered g c =
    let one = rest_is_one g (goal.at.returns-clause-answered g c).Left-lines in
    run_on c.lines.invariant.so_far (λ works. (one, rw length-drop c.if-bytes-used-gt-LONGEST_LINE.false))
