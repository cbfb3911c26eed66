use Rattle.std.proofs.Common.{Some, sym, ap, ◌∙◌}
use Rattle.eden_tree.specs.Directory.{Directory, with_child}
use Rattle.eden_tree.proofs.CallerLemmas.{with_child-same}
use Rattle.eden_materialise.proofs.memory.InsertionChangeUnit.change.Goals as goal

pub returns-in-Err : goal.returns-in-Err
returns-in-Err g c =
    let x = c.args.entry.now in
    (tt, ap (λ (a : Directory). with_child (Some a) x) c.in-Err.ensures.err ∙ with_child-same x c.in-Some.dir.now (sym c.in-Some.ensures.value))
