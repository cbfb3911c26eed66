use Rattle.std.proofs.Common.{◌∙◌}
use Rattle.eden_dematerialise.proofs.Ends.{on_err, moved_done, moved_left}
use Rattle.eden_dematerialise.proofs.Steps.{nothing}
use Rattle.eden_dematerialise.proofs.dematerialising.move_to.Goals as goal

pub returns-in_err-state-clause-so_far : goal.returns-in_err-state-clause-so_far
returns-in_err-state-clause-so_far g c = λ honest. on_err c.from_residual.result (nothing g.W.World.repository 1 c.args.to _ _ (c.state_in.ensures.unchanged honest))

pub returns-in_err-sync-clause-so_far : goal.returns-in_err-sync-clause-so_far
returns-in_err-sync-clause-so_far g c = λ honest.
    on_err c.from_residual-in_err-sync.result (nothing g.W.World.repository 1 c.args.to _ _ (c.sync.ensures.unchanged honest ∙ c.state_in.ensures.unchanged honest))

pub returns-clause-moved : goal.returns-clause-moved
returns-clause-moved g c = λ honest.
    moved_done g.W.World.repository c.args.to c.in_ok-state.state _ _ _ _ _ (c.sync.ensures.unchanged honest ∙ c.state_in.ensures.unchanged honest)
    (c.directory.ensures.done honest) (c.sync-2.ensures.unchanged honest) (c.in_ok-state.ensures.held honest) (c.requires honest) c.in_ok-move_state.ensures.good
    (c.in_ok-move_state.ensures.ok honest)

pub returns-clause-left : goal.returns-clause-left
returns-clause-left g c = λ honest.
    moved_left g.W.World.repository c.args.to c.in_ok-state.state _ _ _ (c.sync-2.ensures.unchanged honest) (c.in_ok-move_state.ensures.ok honest)
    (c.in_ok-directory.ensures.left honest)
