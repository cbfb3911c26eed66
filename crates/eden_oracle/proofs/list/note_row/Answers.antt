use Rattle.std.proofs.Common.{◌∙◌, ap}
use Rattle.eden_model.specs.Paths.{behind_of}
use Rattle.eden_oracle.specs.Fronts.{only_name}
use Rattle.eden_model.specs.Trees.{Path}
use Rattle.eden_model.specs.Operations.{kind_of, kind_named}
use Rattle.eden_oracle.proofs.Listings.{not_child, a_child}
use Rattle.eden_oracle.proofs.list.note_row.Goals as goal

pub returns-in-None : goal.returns-in-None
returns-in-None c = λ n. not_child c.args.dir.now c.args.row.now n (kind_named c.args.all.now n) (kind_of c.args.node.now)
    (c.in-None.ensures ∙ ap (λ (q : Path). only_name (behind_of c.args.dir.now q)) c.as_slice.ensures)

pub returns-in_ok-note-in-Some : goal.returns-in_ok-note-in-Some
returns-in_ok-note-in-Some c = λ n. a_child c.args.dir.now c.args.row.now n c.in-Some.name.now (kind_named c.args.all.now n) _ c.kind.result (kind_of c.args.node.now)
    (c.in-Some.ensures ∙ ap (λ (q : Path). only_name (behind_of c.args.dir.now q)) c.as_slice.ensures) c.kind.ensures (c.in_ok-note-in-Some.ensures n)
