use Rattle.std.proofs.Common.{◌≡◌, ◌≤◌, false, All, length}
use Rattle.eden_dematerialise.specs.Dematerialising.{Stand}
use Rattle.eden_dematerialise.specs.Settling.{AreFrom, AreLed, AreSettled}
use Rattle.eden_dematerialise.proofs.dematerialising.with_entries.Given as goal

-- what was made of the entries that were taken
abbrev pub invariant-entries : goal.invariant-entries
invariant-entries g l = record {
  stand : g.W.World.honest → Stand g.W.World.repository (g.F.Files.stored l.initial.files) l.commit l.yielded l.made.listing;
  same : l.made.has_changed ≡ false → l.made.listing ≡ l.yielded;
  settled : g.W.World.honest → AreSettled g.W.World.repository (g.F.Files.stored l.initial.files) l.commit l.made.listing;
  led : AreLed l.commit l.made.listing l.made.below.items;
  from : g.W.World.honest → AreFrom l.commit l.made.listing l.made.below.items;
  numbers : All (λ x. 1 ≤ x.0) l.made.below.items;
  long : length l.made.listing ≡ length l.yielded;
  unchanged : g.W.World.honest → g.F.Files.stored l.files ≡ g.F.Files.stored l.initial.files;
}
