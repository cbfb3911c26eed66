use Rattle.std.proofs.Common.{refl}
use Rattle.eden_fuse_session.specs.Sessions.{answer_room}
use Rattle.eden_fuse_session.proofs.serving.room_len.Goals as goal

pub returns : goal.returns
unfolding answer_room
returns c = refl
