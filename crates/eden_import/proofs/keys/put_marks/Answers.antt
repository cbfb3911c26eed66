use Rattle.std.proofs.Common.{rules, Bool, cond, List, Option, Some, sym, ap, ◌∙◌}
use Rattle.std.proofs.Math.ListN.{set}
use Rattle.eden_import.specs.Queue.{Mark}
use Rattle.eden_import.proofs.WantLemmas.{marked_more}
use Rattle.eden_import.proofs.keys.put_marks.Goals as goal
use Rattle.eden_import.proofs.keys.put_marks.Goals.{then-is_for, else-is_for}

pub loop-seat-preserved : goal.loop-seat-preserved
loop-seat-preserved c =
    let ms = c.loop-seat.marks in
    let i = c.loop-seat.seat in
    let more = marked_more c.args.key c.args.cause c.args.wants.now c.args.marks.now ms i c.loop-seat-test.true c.requires c.loop-seat.invariant.marked in
    let f : Bool → List (Option Mark) = λ b. cond b (set ms i (Some (c.args.key, c.args.cause))) ms in
    record {
      marked = elim c.if-is_for.branch [
        | then-is_for w ↦ w.marks-is ∙ ap f (sym w.if-is_for.true ∙ c.is_for.ensures) ∙ more
        | else-is_for w ↦ w.marks-is ∙ ap f (sym w.if-is_for.false ∙ c.is_for.ensures) ∙ more
      ];
      long = search rules;
    }
