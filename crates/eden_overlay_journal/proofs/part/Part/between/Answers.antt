use Rattle.std.proofs.Common.{arith}
use Rattle.eden_overlay_journal.proofs.Between.{made_again}
use Rattle.eden_overlay_journal.proofs.part.Part.between.Goals as goal

pub returns-clause-made : goal.returns-clause-made
returns-clause-made c =
    made_again c.args.old.now c.args.new.now c.in_ok-count.count.now c.in_ok-old_rows.old_rows.now c.in_ok-count.rows.now c.split_at.result.1.now c.split_at-2.result.1.now
    c.split_at-3.result.0.now c.same_front-front.result c.same_back-back.result record {
      fits = omega (arith, c.in_ok-old_rows.ensures.cases.2, c.split_at.ensures.back_len, c.same_back-back.ensures.a);
      old_rows_are = c.in_ok-old_rows.ensures.cases.1;
      count_is = c.in_ok-count.ensures.cases.0;
      rows_are = c.in_ok-count.ensures.cases.1;
      same_front = c.same_front-front.ensures.same;
      old_rest_is = c.split_at.ensures.back;
      rest_is = c.split_at-2.ensures.back;
      same_back = c.same_back-back.ensures.same;
      middle_is = c.split_at-3.ensures.front;
    }
