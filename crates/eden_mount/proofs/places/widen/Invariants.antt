use Rattle.std.proofs.Common.{◌≡◌, ◌≤◌, ℕ, length}
use Rattle.eden_mount.specs.Places.{kept_at}
use Rattle.eden_mount.proofs.places.widen.Given as goal

abbrev pub invariant-loop-seat : goal.invariant-loop-seat
invariant-loop-seat g l = ((i : ℕ) → kept_at i l.places.items ≡ kept_at i l.initial.places.items) × (length l.places.items ≡ l._seat) × (length l.initial.places.items ≤ length l.places.items)
