use Rattle.std.proofs.Common.{◌≡◌, ◌+◌, ◌*◌}
use Rattle.eden_snapshot.specs.Written.{WritesEntries}
use Rattle.eden_snapshot.proofs.walk.+walk.Given as goal

abbrev pub decreases-directory : goal.decreases-directory
decreases-directory g l = 3 * l.levels + 2

abbrev pub decreases-object_of : goal.decreases-object_of
decreases-object_of g l = 3 * l.levels + 1

abbrev pub decreases-tree_of : goal.decreases-tree_of
decreases-tree_of g l = 3 * l.levels

-- the entries that were taken are written, and all else is as it was
abbrev pub invariant-directory-entries : goal.invariant-directory-entries
invariant-directory-entries g l = record {
  written : g.W.World.honest
      → WritesEntries (g.F.Files.stored l.initial.overlay) (g.M.Submodules.known l.initial.submodules) l.initial.trail l.yielded l.tree.items (g.S.Sink.filled l.initial.sink) (g.S.Sink.filled l.sink);
  unchanged : g.W.World.honest → g.F.Files.stored l.overlay ≡ g.F.Files.stored l.initial.overlay;
  known : g.W.World.honest → g.M.Submodules.known l.submodules ≡ g.M.Submodules.known l.initial.submodules;
  back : l.trail ≡ l.initial.trail;
}
