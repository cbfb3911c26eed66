use Rattle.std.proofs.Common.{◌≡◌, drop}
use Rattle.eden_snapshot.specs.Commits.{place_named}
use Rattle.eden_snapshot.proofs.commit.place_named.Given as goal

-- what is left has the same under the name
abbrev pub invariant-entries : goal.invariant-entries
invariant-entries l = place_named l.name (drop l.entry-index l.entries) ≡ place_named l.name l.entries
