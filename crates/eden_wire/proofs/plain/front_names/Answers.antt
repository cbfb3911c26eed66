use Rattle.std.proofs.Common.{◌<◌, length, rules}
use Rattle.eden_wire.proofs.Slices.{slice-end}
use Rattle.eden_wire.proofs.Fronts.{names_more}
use Rattle.eden_wire.proofs.plain.front_names.Goals as goal

pub parts-preserved : goal.parts-preserved
parts-preserved c =
    let some : 0 < length c.parts.rest.now = search rules in
    names_more _ c.parts.invariant some c.if-rest-eq47.true (slice-end c.parts.rest.now 1) c.in_ok-name.ensures c.in-Ok-push.ensures.items
