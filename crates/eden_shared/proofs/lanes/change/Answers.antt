use Rattle.std.proofs.Common.{slice_set, Some, sym, ap, ◌∙◌}
use Rattle.eden_shared.specs.declared.lanes.Lane.{Lane}
use Rattle.eden_shared.specs.Lanes.{names_of, values_of}
use Rattle.eden_shared.proofs.Listed.{map_set, set_same, mapped_at}
use Rattle.eden_shared.proofs.lanes.change.Goals as goal

pub returns-clause-names : goal.returns-clause-names
returns-clause-names g c =
    let lane = c.index_mut-lane.result.now in
    let is = mapped_at (λ (l : Lane). l.near.name) c.args.lanes.now.items c.args.at lane c.args.end.now.name c.index_mut-lane.ensures.value c.requires in
    map_set (λ (l : Lane). l.near.name) c.args.lanes.now.items c.args.at (record { near = c.turn.new.near; mark = lane.mark })
    ∙ set_same (names_of c.args.lanes.now.items) c.args.at _ (c.requires ∙ ap Some (sym (c.turn.ensures.near.0 ∙ is)))

pub returns-clause-values : goal.returns-clause-values
returns-clause-values g c =
    map_set (λ (l : Lane). l.near.value) c.args.lanes.now.items c.args.at (record { near = c.turn.new.near; mark = c.index_mut-lane.result.now.mark })
    ∙ ap (slice_set (values_of c.args.lanes.now.items) c.args.at) (c.turn.ensures.near.1 ∙ ap (g.M.Turns.after c.args.about.now) c.turn.ensures.same)
