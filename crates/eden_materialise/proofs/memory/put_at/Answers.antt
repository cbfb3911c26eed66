use Rattle.std.proofs.Common.{◌∙◌}
use Rattle.std.proofs.lemmas.Result.{on_err_weaker}
use Rattle.eden_tree.proofs.CallerLemmas.{edits_same}
use Rattle.eden_materialise.proofs.memory.put_at.Goals as goal

pub returns-clause-err : goal.returns-clause-err
returns-clause-err g c =
    let s = c.in-Some.ensures.some in
    on_err_weaker c.in-Some.done (λ is. s.is ∙ edits_same c.args.path.now (λ _. s.after) c.args.root.now s.before s.was is) s.done.1
