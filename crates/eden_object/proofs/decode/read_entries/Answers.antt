use Rattle.std.proofs.Common.{◌≡◌, ◌∙◌, subst}
use Rattle.eden_object.proofs.NameLemmas.{Gathers, gathers_on, gathers_all}
use Rattle.eden_object.proofs.decode.read_entries.Goals as goal

pub rows-preserved : goal.rows-preserved
rows-preserved c =
    let further = gathers_on c.rows.entries.items _ c.args.body.now _ _ c.rows.invariant c.in-Some.ensures in
    subst (λ read. Gathers read c.args.body.now c.in-Some.more.now)
    (let pushed = c.in_ok-push.ensures.items in let name : c.in-Ok.name ≡ c.in-Some.row.name.now = c.in-Ok.ensures.ok ∙ c.in_ok-from_slice.ensures.items in cc) further

pub returns : goal.returns
returns c = λ es h. gathers_all c.rows.entries.items c.args.body.now c.rows.rest.now c.rows.invariant c.in_default.ensures es h
