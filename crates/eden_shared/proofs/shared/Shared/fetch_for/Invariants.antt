use Rattle.std.proofs.Common.{◌≡◌}
use Rattle.eden_shared.proofs.shared.Shared.fetch_for.Given as goal

-- nothing has happened yet
abbrev pub invariant-loop : goal.invariant-loop
invariant-loop g l =
    (goal.iterator-loop g).can_next l.iterator' × (goal.iterator-loop g).is_finite l.iterator'
    × (l.end.name ≡ l.initial.end.name) × (l.end.value ≡ l.initial.end.value)
