use Rattle.std.proofs.Common.{sym, ap, ◌∙◌}
use Rattle.eden_model.specs.declared.kind.Kind.{Kind}
use Rattle.eden_model.specs.declared.kind.Origin.{Origin}
use Rattle.eden_model.specs.Repository.{item_by}
use Rattle.eden_tree.specs.Directory.{unloaded, Row}
use Rattle.eden_inode.proofs.Filled.{origin_is, empty_is_dir}
use Rattle.eden_inode.proofs.fill.entry_by.Goals as goal

pub invariant_of-result : goal.invariant_of-result
invariant_of-result g c =
    let e = c.args.entry.now in record {
      loaded = λ h. cc;
      empty = λ h. c.kind.ensures e.id ∙ empty_is_dir e.mode e.id (sym (origin_is e.mode e.id c.origin.result c.origin.ensures) ∙ h);
    }

pub returns : goal.returns
returns g c =
    let e = c.args.entry.now in
    let row : Kind → Origin → Row = λ k o. record { number = c.args.number; kind = k; origin = o; child = unloaded } in
    ap (λ (k : Kind). row k c.origin.result) (c.kind.ensures e.id) ∙ ap (λ (o : Origin). row (item_by e.mode e.id).kind o) (origin_is e.mode e.id c.origin.result c.origin.ensures)
