use Rattle.std.proofs.Common.{◌≡◌, ◌+◌, take}
use Rattle.eden_overlay.specs.Keeping.{kept_bytes}
use Rattle.eden_overlay.proofs.recent.are_within.Given as goal

abbrev pub invariant-loop-one : goal.invariant-loop-one
invariant-loop-one l = kept_bytes (take l.one-index l.kept) + l.room ≡ l.most
