use Rattle.std.proofs.Common.{◌++◌, [], ◌∷◌, sym, subst}
use Rattle.eden_overlay.specs.declared.recent.Kept.{Kept}
use Rattle.eden_overlay.specs.Keeping.{Fits}
use Rattle.eden_overlay.proofs.Kept.{pushed_fits}
use Rattle.eden_overlay.proofs.recent.Recent.keep.Goals as goal

pub returns-clause-fits : goal.returns-clause-fits
returns-clause-fits c =
    let x : Kept = record { number = c.args.number; content = c.args.content } in
    let rest = c.make_room.new.self.kept.items in
    subst (Fits c.args.self.now.most) (sym c.in_ok-push.ensures.items)
    (subst (λ m. Fits m (rest ++ x ∷ [])) c.let_go.ensures.most
    (pushed_fits c.let_go.new.self.most c.len.result rest x c.len.ensures c.make_room.ensures.left.room))
