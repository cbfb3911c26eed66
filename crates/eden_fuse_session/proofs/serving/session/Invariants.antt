use Rattle.std.proofs.Common.{◌≤◌, vec_capacity}
use Rattle.eden_fuse_session.specs.Sessions.{answer_room}
use Rattle.eden_fuse_session.proofs.Taking.{Through}
use Rattle.eden_fuse_session.proofs.serving.session.Given as goal

abbrev pub invariant-messages : goal.invariant-messages
invariant-messages g l = (answer_room ≤ vec_capacity l.out) × Through g.S.Service.answers
    (l.fn.service, (g.C.Sender.sent l.fn.sender, g.C.Sender.failures l.fn.sender)) (l.service, (g.C.Sender.sent l.sender, g.C.Sender.failures l.sender))
    (g.V.Receiver.waiting l.fn.receiver) (g.V.Receiver.waiting l.receiver)
