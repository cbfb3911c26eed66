use Rattle.std.proofs.Common.{refl}
use Rattle.eden_dematerialise.proofs.Ends.{listed_so_far, not_there, on_err, removed_done, removed_so_far, unrooted_done}
use Rattle.eden_dematerialise.proofs.Left.{on_ok}
use Rattle.eden_dematerialise.proofs.Removed.{nothing_removed}
use Rattle.eden_dematerialise.proofs.Steps.{nothing}
use Rattle.eden_dematerialise.proofs.dematerialising.run.Goals as goal

pub returns-in_err-is_rooted-clause-so_far : goal.returns-in_err-is_rooted-clause-so_far
returns-in_err-is_rooted-clause-so_far g c = λ honest.
    let F = g.F.Files.stored c.args.files.now in
    on_err c.from_residual.result (listed_so_far g.W.World.repository c.args.to F F _ refl (nothing g.W.World.repository 1 c.args.to F _ (c.is_rooted.ensures.unchanged honest)))

pub returns-then-not-branch-clause-done : goal.returns-then-not-branch-clause-done
returns-then-not-branch-clause-done g c = λ honest.
    unrooted_done g.W.World.repository c.args.to _ _ (c.is_rooted.ensures.unchanged honest)
    (not_there c.in_ok-is_rooted.field-0 _ c.if-not-branch.true (c.in_ok-is_rooted.ensures.told honest))

pub returns-in_err-sync-clause-so_far : goal.returns-in_err-sync-clause-so_far
returns-in_err-sync-clause-so_far g c = λ honest.
    let moved = g.F.Files.stored c.move_to.new.files in
    on_err c.from_residual-in_err-sync.result
    (removed_so_far g.W.World.repository c.args.to _ _ moved moved _ (c.is_rooted.ensures.unchanged honest) (c.in_ok-move_to.ensures.moved honest) refl
    (nothing_removed moved _ (c.sync.ensures.unchanged honest)))

pub returns-clause-done : goal.returns-clause-done
returns-clause-done g c = λ honest.
    on_ok c.remove_unread.result
    (removed_done g.W.World.repository c.args.to _ _ _ _ _ (c.is_rooted.ensures.unchanged honest) (c.in_ok-move_to.ensures.moved honest)
    (c.in_ok-move_to.ensures.left honest) (c.sync.ensures.unchanged honest) (c.remove_unread.ensures.removed honest)) (c.remove_unread.ensures.unread honest)

pub returns-clause-so_far : goal.returns-clause-so_far
returns-clause-so_far g c = λ honest.
    on_err c.remove_unread.result
    (removed_so_far g.W.World.repository c.args.to _ _ _ _ _ (c.is_rooted.ensures.unchanged honest) (c.in_ok-move_to.ensures.moved honest)
    (c.sync.ensures.unchanged honest) (c.remove_unread.ensures.removed honest))
