use Rattle.std.proofs.Common.{◌≡◌, ◌≢◌, ◌⊎◌, ℕ, None, true, Contains, nat_cmp}
use Rattle.std.specs.BTreeSet.{contains}
use Rattle.eden_dematerialise.proofs.unread.remove_all.Given as goal

-- the files of the numbers that were taken are gone, but for those that are kept; the others are as they were
abbrev pub invariant-numbers : goal.invariant-numbers
invariant-numbers g l = record {
  others : g.W.World.honest → (k : ℕ) → (g.F.Files.stored l.files k ≡ g.F.Files.stored l.initial.files k)
      ⊎ ((g.F.Files.stored l.files k ≡ None) × Contains l.fn.numbers.items k × (contains nat_cmp l.kept k ≢ true));
  gone : g.W.World.honest → (k : ℕ) → Contains l.yielded k → contains nat_cmp l.kept k ≢ true → g.F.Files.stored l.files k ≡ None;
}
