use Rattle.std.proofs.Common.{◌≡◌, drop}
use Rattle.eden_snapshot.specs.Commits.{place_from}
use Rattle.eden_snapshot.proofs.commit.place_from.Given as goal

-- the same stands at what is left of the path, from here on
abbrev pub invariant-names : goal.invariant-names
invariant-names g l = g.W.World.honest → place_from g.W.World.repository l.at (drop l.name-index l.path) ≡ place_from g.W.World.repository l.fn.top l.path
