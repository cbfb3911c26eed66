use Rattle.std.proofs.Common.{ℕ, List, take, subst}
use Rattle.eden_fuse_session.specs.Sessions.{answer_room}
use Rattle.eden_fuse_session.specs.Turns.{Turn}
use Rattle.eden_fuse_session.proofs.Rooms.{turn_in_less}
use Rattle.eden_fuse_session.proofs.serving.answer.Goals as goal

pub returns-clause-turn : goal.returns-clause-turn
returns-clause-turn g c =
    subst (λ (bytes : List ℕ). Turn g.S.Service.answers (take c.args.len bytes) c.args.service.now c.turn.new.service
    (g.C.Sender.sent c.args.sender.now, g.C.Sender.failures c.args.sender.now)
    (g.C.Sender.sent c.turn.new.sender, g.C.Sender.failures c.turn.new.sender) answer_room c.turn.result)
    c.deref.ensures.value (turn_in_less g.S.Service.answers _ _ _ _ _ _ _ _ c.requires.room c.turn.ensures.turn)
