use Rattle.std.proofs.Common.{rules, ◌∙◌, ◌++◌, refl, sym, ap}
use Rattle.std.proofs.lemmas.Bool.{eqb-true, eqb-false}
use Rattle.std.proofs.lemmas.List.{append-nil, nil_from_length}
use Rattle.eden_repair.proofs.Steps.{stores_none, stores_some}
use Rattle.eden_repair.proofs.own.store.Goals as goal

pub returns-then-is_empty-clause-ok : goal.returns-then-is_empty-clause-ok
returns-then-is_empty-clause-ok g c = λ honest.
    let F = g.F.Files.stored c.args.files.now in
    let cut = c.args.cut in
    stores_none F F c.args.number c.args.listing cut.items (sym cut.ok.0 ∙ eqb-true cut.len 0 (sym c.if-is_empty.ensures)) refl

pub returns-then-is_empty-clause-told : goal.returns-then-is_empty-clause-told
returns-then-is_empty-clause-told g c =
    let cut = c.args.cut in
    let told = c.args.found.now.items in
    sym (ap (λ l. told ++ l) (nil_from_length cut.items (sym cut.ok.0 ∙ eqb-true cut.len 0 (sym c.if-is_empty.ensures))) ∙ append-nil told)

pub returns-in-Ok-clause-ok : goal.returns-in-Ok-clause-ok
returns-in-Ok-clause-ok g c = λ honest.
    let cut = c.args.cut in
    stores_some (g.F.Files.stored c.args.files.now) _ c.args.number c.args.listing cut.items (λ zero. eqb-false cut.len 0 (sym c.if-is_empty.ensures) (cut.ok.0 ∙ zero)) (search rules)
