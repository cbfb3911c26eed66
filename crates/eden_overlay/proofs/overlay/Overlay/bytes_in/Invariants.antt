use Rattle.std.proofs.Common.{◌≡◌, take}
use Rattle.eden_overlay.specs.Tidying.{bytes_in}
use Rattle.eden_overlay.proofs.overlay.Overlay.bytes_in.Given as goal

abbrev pub invariant-loop-number : goal.invariant-loop-number
invariant-loop-number g l = record {
  unchanged : g.W.World.honest → g.F.Files.stored l.self ≡ g.F.Files.stored l.fn.self;
  counted : g.F.Files.failures l.self ≡ g.F.Files.failures l.fn.self;
  so_far : g.W.World.honest → l.bytes ≡ bytes_in (g.F.Files.stored l.fn.self) (take l.number-index l.numbers);
}
