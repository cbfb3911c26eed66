use Rattle.std.proofs.Common.{◌≡◌, map, take}
use Rattle.eden_object.proofs.encode.lent.Given as goal

abbrev pub invariant-entries : goal.invariant-entries
invariant-entries l = map (λ e. e.now) l.lent.items ≡ take l.entry-index l.entries
