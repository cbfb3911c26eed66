use Rattle.std.proofs.Common.{◌≡◌, List, ◌∙◌, ap, None, ◌++◌, ◌∷◌, []}
use Rattle.eden_model.specs.Operations.{put}
use Rattle.eden_model.specs.Trees.{Path}
use Rattle.eden_oracle.specs.Rows.{tree_of}
use Rattle.eden_oracle.proofs.Puts.{with_row}
use Rattle.eden_oracle.proofs.change.replace.Goals as goal

pub returns-clause-ok : goal.returns-clause-ok
returns-clause-ok g c =
    let pushed : c.push.new.self.items ≡ c.remove.new.rows.items ++ (c.args.path, c.args.value) ∷ [] = search (c.push.ensures.items, c.unwrap.ensures) in
    let removed : tree_of c.remove.new.rows.items ≡ put (tree_of c.args.rows.now.items) c.args.path None =
    c.remove.ensures.tree
    ∙ ap (λ (rows : List (Path × g.row.V.Denot)). put (tree_of rows) c.as_slice.result.now None) c.reserve.ensures.items
    ∙ ap (λ (p : Path). put (tree_of c.args.rows.now.items) p None) c.as_slice.ensures in
    ap tree_of pushed ∙ with_row (tree_of c.args.rows.now.items) c.remove.new.rows.items c.args.path c.args.value removed
