use Rattle.std.proofs.Common.{◌≡◌, false, rules}
use Rattle.std.specs.Prelude.{is_some}
use Rattle.eden_wire.proofs.Fronts.{part_spells, escaped_first}
use Rattle.eden_wire.proofs.plain.front_escaped.Goals as goal

pub read_name-requires : goal.read_name-requires
read_name-requires c =
    let none : is_some c.in_ok-scanned.scanned.refusal ≡ false = search rules in
    part_spells c.in_ok-scanned.ensures none

pub returns : goal.returns
returns c =
    let none : is_some c.in_ok-scanned.scanned.refusal ≡ false = search rules in
    escaped_first _ _ c.in_ok-scanned.ensures none c.split_at.ensures.front c.split_at.ensures.back c.in-Ok.ensures
