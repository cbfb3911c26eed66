use Rattle.std.proofs.Common.{◌≤◌, ℕ, subst, vec_capacity}
use Rattle.eden_fuse_session.proofs.Taking.{ended, through_kept, through_more, through_none}
use Rattle.eden_fuse_session.proofs.serving.session.Goals as goal
use Rattle.eden_fuse_session.proofs.serving.session.Goals.{in-Message, in-Nothing}

pub returns-in-End : goal.returns-in-End
returns-in-End g c = ended g.S.Service.answers _ _ _ _ _ c.messages.invariant.1 c.in-End.ensures

pub messages-init : goal.messages-init
messages-init g c = (
  subst (λ (n : ℕ). n ≤ vec_capacity c.in-Ok-make_room.out) c.room_len.ensures c.in-Ok-make_room.ensures,
  through_none g.S.Service.answers _ _,
)

pub messages-preserved : goal.messages-preserved
messages-preserved g c = elim c.match-receive.branch [
  | in-Message w ↦ rw (w.out-is, w.sender-is, w.service-is) (
    w.answer.ensures.room,
    through_more g.S.Service.answers _ _ _ _ _ _ _ _ c.messages.invariant.1 w.in-Message.ensures.1 w.answer.ensures.turn,
  )
  | in-Nothing w ↦ rw (w.out-is, w.sender-is, w.service-is)
      (c.messages.invariant.0, through_kept g.S.Service.answers _ _ _ _ _ w.in-Nothing.ensures c.messages.invariant.1)
]
