use Rattle.std.proofs.Common.{◌≡◌, ◌≤◌, List, drop, length}
use Rattle.eden_overlay.specs.declared.recent.Kept.{Kept}
use Rattle.eden_overlay.specs.Keeping.{HasRoomBeside, IsEndOf}
use Rattle.eden_overlay.proofs.recent.Recent.make_room.Given as goal

abbrev pub invariant-loop : goal.invariant-loop
invariant-loop l = record {
  rest : l.self.kept.items ≡ drop l.counter l.fn.self.kept.items;
  no_more : (more : List Kept) → IsEndOf more l.fn.self.kept.items → HasRoomBeside l.fn.self.most l.len more → length more ≤ length l.self.kept.items;
  whole : l.self.whole ≡ l.fn.self.whole;
  most : l.self.most ≡ l.fn.self.most;
}
