use Rattle.std.proofs.Common.{◌≡◌, true, take}
use Rattle.std.specs.List.{list_all}
use Rattle.eden_wire.specs.Names.{is_plain}
use Rattle.eden_wire.proofs.escape.plain_len.Given as goal

abbrev pub invariant-bytes : goal.invariant-bytes
invariant-bytes l = list_all is_plain (take l.i l.text) ≡ true
