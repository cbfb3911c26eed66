use Rattle.std.proofs.Common.{◌+◌, ◌*◌, ◌≤◌, ℕ, Contains}
use Rattle.eden_model.specs.declared.id.Id.{Id}
use Rattle.eden_dematerialise.specs.Dematerialising.{Dematerialises, NoneIsLeft}
use Rattle.eden_dematerialise.specs.Settling.{LeadsTo}
use Rattle.eden_dematerialise.proofs.dematerialising.+walk.Given as goal

abbrev pub decreases-directory : goal.decreases-directory
decreases-directory g l = 2 * l.levels + 1

abbrev pub decreases-inside : goal.decreases-inside
decreases-inside g l = 2 * l.levels

-- what was looked into is dematerialised, and nothing is left there
abbrev pub invariant-inside-below : goal.invariant-inside-below
invariant-inside-below g l = record {
  done : g.W.World.honest → (k : ℕ) (tree : Id) → 1 ≤ k → LeadsTo g.W.World.repository (g.F.Files.stored l.initial.files) k tree l.yielded
      → Dematerialises g.W.World.repository k tree (g.F.Files.stored l.initial.files) (g.F.Files.stored l.files);
  left : g.W.World.honest → (x : ℕ × Id) → Contains l.yielded x → NoneIsLeft g.W.World.repository (g.F.Files.stored l.files) x.0 x.1;
  least : (x : ℕ × Id) → Contains l.yielded x → 1 ≤ x.0;
}
