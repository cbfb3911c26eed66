use Rattle.std.proofs.Common.{◌≡◌, ◌≤◌, ◌<◌, ◌⊎◌, ◌+◌, ℕ, All, Contains, take}
use Rattle.eden_model.specs.Limits.{number_end}
use Rattle.eden_overlay.proofs.rescan.after_files.Given as goal

abbrev pub invariant-loop-number : goal.invariant-loop-number
invariant-loop-number l = record {
  above : l.fn.least ≤ l.next;
  files : All (λ k. k < l.next) (take l.number-index l.files);
  range : l.next ≤ number_end;
  last : (l.next ≡ l.fn.least) ⊎ ((k : ℕ) × (Contains l.files k × (l.next ≡ k + 1)));
}
