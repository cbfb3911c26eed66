use Rattle.std.proofs.Common.{◌≡◌, filter, drop, Option, sym, subst}
use Rattle.eden_model.specs.Operations.{is_after}
use Rattle.eden_model.specs.Trees.{Name}
use Rattle.eden_ops.proofs.Listed.{all_behind}
use Rattle.eden_ops.proofs.pages.first_behind.Goals as goal

pub returns-in-None-clause-greater : goal.returns-in-None-clause-greater
returns-in-None-clause-greater g c =
    let rows = c.args.dir.now.rows in
    subst (λ (o : Option Name). rows ≡ filter (λ r. is_after o r.0) rows) (sym c.in-None.is) (all_behind rows)

pub returns-in-Some-clause-greater : goal.returns-in-Some-clause-greater
returns-in-Some-clause-greater g c =
    let rows = c.args.dir.now.rows in
    subst (λ (o : Option Name). drop c.behind.result rows ≡ filter (λ r. is_after o r.0) rows) (sym c.in-Some.is) c.behind.ensures.greater
