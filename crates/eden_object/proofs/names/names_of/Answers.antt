use Rattle.std.proofs.Common.{map, sym, ap, ◌∙◌, subst}
use Rattle.std.proofs.lemmas.List.{map_push}
use Rattle.eden_object.proofs.SortLemmas.{GathersNames, names_on, names_all}
use Rattle.eden_object.proofs.names.names_of.Goals as goal

pub rows-preserved : goal.rows-preserved
rows-preserved c =
    let read = map (λ n. n.now) c.rows.names.items in
    let pushed = ap (map (λ n. n.now)) c.in_ok-push.ensures.items ∙ map_push (λ n. n.now) c.rows.names.items c.in-Some.row.name in
    let further = names_on read _ c.args.body.now _ _ c.rows.invariant c.in-Some.ensures in
    subst (λ read. GathersNames read c.args.body.now c.in-Some.more.now) (sym pushed) further

pub returns : goal.returns
returns c = names_all (map (λ n. n.now) c.rows.names.items) c.args.body.now c.rows.rest.now c.rows.invariant c.in_default.ensures
