use Rattle.std.proofs.Common.{◌≡◌, ◌≤◌, ◌-◌, true, take, length}
use Rattle.std.specs.List.{list_all}
use Rattle.eden_wire.specs.Names.{is_plain}
use Rattle.eden_wire.proofs.escape.are_all_plain.Given as goal

abbrev pub invariant-fours : goal.invariant-fours
invariant-fours l = record {
  within : l.fours ≤ length l.text;
  plain : list_all is_plain (take l.fours l.text) ≡ true;
}

abbrev pub decreases-fours : goal.decreases-fours
decreases-fours l = length l.text - l.fours

abbrev pub invariant-bytes : goal.invariant-bytes
invariant-bytes l = list_all is_plain (take l.i l.text) ≡ true
