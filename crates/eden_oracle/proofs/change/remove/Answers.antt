use Rattle.std.proofs.Common.{rules, ◌∙◌, ap}
use Rattle.std.proofs.lemmas.Fn.{filter_same}
use Rattle.eden_model.specs.Trees.{Path}
use Rattle.eden_oracle.specs.Rows.{tree_of}
use Rattle.eden_oracle.proofs.Puts.{elsewhere, without}
use Rattle.eden_oracle.proofs.change.remove.Goals as goal

pub returns-clause-tree : goal.returns-clause-tree
returns-clause-tree g c =
    ap tree_of (filter_same _ (λ (r : Path × g.row.V.Denot). elsewhere c.args.path.now r.0) _ (λ x b f' k. search rules) _ _ c.retain.ensures.filtered)
    ∙ without c.args.rows.now.items c.args.path.now
