use Rattle.eden_object.proofs.FrameLemmas.{one_frame_law}
use Rattle.eden_object.proofs.laws.one_frame.Goals as goal

pub returns : goal.returns
returns c = one_frame_law
