use Rattle.std.proofs.Common.{◌≡◌, ◌+◌, ◌*◌, Contains}
use Rattle.eden_overlay_format.specs.declared.stored_entry.StoredEntry.{StoredEntry}
use Rattle.eden_overlay.specs.Soundness.{IsLive}
use Rattle.eden_dematerialise.specs.Unread.{AreEntries, AreMetOf, Stay}
use Rattle.eden_dematerialise.proofs.unread.+look.Given as goal

abbrev pub decreases-numbers_in : goal.decreases-numbers_in
decreases-numbers_in g l = 2 * l.levels + 1

abbrev pub decreases-numbers_by : goal.decreases-numbers_by
decreases-numbers_by g l = 2 * l.levels

-- the numbers of the entries that were taken, and below them, were met
abbrev pub invariant-numbers_in-entries : goal.invariant-numbers_in-entries
invariant-numbers_in-entries g l = record {
  each : g.W.World.honest → IsLive (g.F.Files.stored l.fn.files) l.fn.number → AreEntries (g.F.Files.stored l.fn.files) l.fn.met l.met;
  stay : Stay l.fn.met l.met;
  all : g.W.World.honest → (e : StoredEntry) → Contains l.yielded e → AreMetOf (g.F.Files.stored l.fn.files) l.met e;
  unchanged : g.W.World.honest → g.F.Files.stored l.files ≡ g.F.Files.stored l.fn.files;
}
