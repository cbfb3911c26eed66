use Rattle.std.proofs.Common.{◌<◌, length, rules}
use Rattle.eden_wire.proofs.PathLemmas.{begins}
use Rattle.eden_wire.proofs.Scanning.{to_go_begins, to_go_next, to_go_more}
use Rattle.eden_wire.proofs.path_text.read_path.Goals as goal

pub next_component-plain-requires : goal.next_component-plain-requires
next_component-plain-requires c =
    let some : 0 < length c.parts.rest.now = search rules in
    begins c.parts.rest.now (to_go_begins c.parts.invariant) some

pub read_component-requires-clause-named : goal.read_component-requires-clause-named
read_component-requires-clause-named c = to_go_next c.parts.invariant c.next_component-plain.ensures.part

pub parts-preserved : goal.parts-preserved
parts-preserved c =
    let read = c.in_ok-read_component.ensures in
    to_go_more _ c.parts.invariant c.next_component-plain.ensures.part read.0 read.1 c.in_ok-push.ensures.items
