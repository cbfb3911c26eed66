use Rattle.std.proofs.Common.{◌≡◌, None, All, take}
use Rattle.eden_model.specs.declared.id.Id.{Id}
use Rattle.eden_overlay.specs.Tidying.{IsOrphan, IsTidiedInPart}
use Rattle.eden_overlay.proofs.overlay.Overlay.remove_orphans.Given as goal

abbrev pub invariant-loop-number : goal.invariant-loop-number
invariant-loop-number g l = record {
  part : g.W.World.honest → (root : Id) → All (IsOrphan (g.F.Files.stored l.fn.self) root) l.numbers
      → IsTidiedInPart (g.F.Files.stored l.fn.self) root (g.F.Files.stored l.self);
  gone : g.W.World.honest → All (λ k. g.F.Files.stored l.self k ≡ None) (take l.number-index l.numbers);
  counted : g.F.Files.failures l.self ≡ g.F.Files.failures l.fn.self;
}
