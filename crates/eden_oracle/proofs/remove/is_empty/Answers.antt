use Rattle.std.proofs.Common.{sym, ◌∙◌, ap, [], ◌∷◌, ◌++◌}
use Rattle.std.specs.Map.{lookup}
use Rattle.std.proofs.lemmas.List.{take_all}
use Rattle.eden_model.specs.Paths.{path_eq, behind_of}
use Rattle.eden_oracle.specs.Fronts.{only_name}
use Rattle.eden_model.specs.Trees.{Path}
use Rattle.eden_oracle.proofs.Listings.{no_child_more, some_child, copied_none, copied_some}
use Rattle.eden_oracle.proofs.remove.is_empty.Goals as goal

pub returns-then-is_some : goal.returns-then-is_some
returns-then-is_some c =
    let child = copied_some c.child.result (sym c.is_some.ensures ∙ c.if-is_some.true) in
    record {
      empty = λ e. cc;
      some = λ e. some_child c.args.rows.now c.args.dir.now c.loop-row.row-index c.loop-row-item.result child.0 c.loop-row-test.true c.loop-row-item.is
          (ap (λ (q : Path). only_name (behind_of c.args.dir.now q)) (sym c.as_slice.ensures) ∙ sym c.child.ensures ∙ child.1);
    }

pub loop-row-preserved : goal.loop-row-preserved
loop-row-preserved c =
    no_child_more c.args.rows.now c.args.dir.now c.loop-row.row-index c.loop-row-item.result c.loop-row-test.true c.loop-row-item.is
    (ap (λ (q : Path). only_name (behind_of c.args.dir.now q)) (sym c.as_slice.ensures) ∙ sym c.child.ensures
    ∙ copied_none c.child.result (sym c.is_some.ensures ∙ c.if-is_some.false))
    c.loop-row.invariant

pub returns-clause-empty : goal.returns-clause-empty
returns-clause-empty c e n = ap (lookup (path_eq (c.args.dir.now ++ n ∷ []))) (sym (take_all c.loop-row.row-index c.args.rows.now c.loop-row-test.false)) ∙ c.loop-row.invariant n
