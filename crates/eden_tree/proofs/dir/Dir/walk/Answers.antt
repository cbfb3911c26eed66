use Rattle.std.proofs.Common.{◌≡◌, ◌∷◌, Some, sym, ap, ◌∙◌}
use Rattle.std.specs.Option.{option_and_then}
use Rattle.eden_model.specs.Trees.{Path}
use Rattle.eden_tree.specs.Directory.{child_of}
use Rattle.eden_tree.specs.Paths.{row_at, row_in, directory_at}
use Rattle.eden_tree.proofs.dir.Dir.walk.Goals as goal

pub returns-in-Some-walk : goal.returns-in-Some-walk
returns-in-Some-walk g c =
    let d = c.args.self.now in
    let n = c.in-Some.name.now in
    let p = c.in-Some.rest.now in
    let last = c.in-Some-walk.last.now in
    let at : row_in (n ∷ p) d ≡ Some last = ap (option_and_then (row_at p)) (sym c.in-Some-get.ensures) ∙ sym c.in-Some-walk.ensures in
    c.directory.ensures ∙ sym (ap (λ (q : Path). directory_at q d) c.in-Some.ensures.cases.0 ∙ ap (option_and_then child_of) at)
