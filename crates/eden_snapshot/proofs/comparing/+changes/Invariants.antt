use Rattle.std.proofs.Common.{◌≡◌, ◌+◌, ◌*◌}
use Rattle.eden_snapshot.specs.Changes.{Tells}
use Rattle.eden_snapshot.proofs.comparing.+changes.Given as goal

abbrev pub decreases-directory : goal.decreases-directory
decreases-directory g l = 4 * l.levels + 3

abbrev pub decreases-entry : goal.decreases-entry
decreases-entry g l = 4 * l.levels + 2

abbrev pub decreases-below : goal.decreases-below
decreases-below g l = 4 * l.levels + 1

abbrev pub decreases-inside : goal.decreases-inside
decreases-inside g l = 4 * l.levels

-- the changes under the names so far are told, and all else is as it was
abbrev pub invariant-directory-rows : goal.invariant-directory-rows
invariant-directory-rows g l = record {
  told : g.W.World.honest
      → Tells (g.F.Files.stored l.initial.overlay) g.W.World.repository l.initial.trail l.yielded (g.C.ChangeSink.told l.initial.sink) (g.C.ChangeSink.told l.sink);
  unchanged : g.W.World.honest → g.F.Files.stored l.overlay ≡ g.F.Files.stored l.initial.overlay;
  back : l.trail ≡ l.initial.trail;
}
