use Rattle.std.proofs.Common.{◌≤◌, ◌∙◌, drop, length, refl, sym, ap, subst, inl, inr, arith}
use Rattle.std.proofs.lemmas.List.{drop_all}
use Rattle.eden_overlay.specs.Keeping.{HasRoomBeside}
use Rattle.eden_overlay.proofs.Kept.{behind, ends_within, none_before, one_more_gone}
use Rattle.eden_overlay.proofs.recent.Recent.make_room.Goals as goal

pub returns-then-has_room-clause-left : goal.returns-then-has_room-clause-left
returns-then-has_room-clause-left c = record {
  end = behind c.loop.counter c.loop.self.kept.items c.args.self.now.kept.items c.loop.invariant.rest;
  room = inr (subst (λ m. HasRoomBeside m c.args.len c.loop.self.kept.items) c.loop.invariant.most (c.has_room.ensures.room c.if-has_room.true));
  no_more = c.loop.invariant.no_more;
}

pub returns-clause-left : goal.returns-clause-left
returns-clause-left c = record {
  end = behind c.loop.counter c.loop.self.kept.items c.args.self.now.kept.items c.loop.invariant.rest;
  room = inl (c.loop.invariant.rest ∙ drop_all c.loop.counter c.args.self.now.kept.items (omega (arith)));
  no_more = c.loop.invariant.no_more;
}

pub loop-init : goal.loop-init
loop-init c = record {
  rest = refl;
  no_more = λ more end room. ends_within more c.args.self.now.kept.items end;
  whole = refl;
  most = refl;
}

pub loop-preserved : goal.loop-preserved
loop-preserved c = record {
  rest = c.drop_oldest.ensures.kept ∙ ap (drop 1) c.loop.invariant.rest ∙ one_more_gone c.args.self.now.kept.items c.loop.counter;
  no_more = λ more end room. (let none = subst (λ m. ¬ HasRoomBeside m c.args.len c.loop.self.kept.items) c.loop.invariant.most (c.has_room.ensures.none c.if-has_room.false) in
      subst (λ kept. length more ≤ length kept) (sym c.drop_oldest.ensures.kept)
      (none_before c.args.self.now.most c.args.len c.loop.counter c.loop.self.kept.items c.args.self.now.kept.items c.loop.invariant.rest none c.loop.invariant.no_more more end room));
  whole = c.drop_oldest.ensures.whole ∙ c.loop.invariant.whole;
  most = c.drop_oldest.ensures.most ∙ c.loop.invariant.most;
}
