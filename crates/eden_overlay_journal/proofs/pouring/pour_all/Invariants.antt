use Rattle.std.proofs.Common.{◌≡◌, All, take}
use Rattle.eden_overlay_journal.specs.Changes.{changed_files}
use Rattle.eden_overlay_journal.proofs.pouring.pour_all.Given as goal

abbrev pub invariant-loop-number : goal.invariant-loop-number
invariant-loop-number g l = record {
  journal : g.W.World.honest → g.J.Journal.changes l.journal ≡ g.J.Journal.changes l.fn.journal;
  same : g.W.World.honest → changed_files (g.J.Journal.changes l.fn.journal) (g.F.Files.stored l.files)
      ≡ changed_files (g.J.Journal.changes l.fn.journal) (g.F.Files.stored l.fn.files);
  done : g.W.World.honest → All (λ k. g.F.Files.stored l.files k ≡ changed_files (g.J.Journal.changes l.fn.journal) (g.F.Files.stored l.fn.files) k)
      (take l.number-index l.numbers);
}
