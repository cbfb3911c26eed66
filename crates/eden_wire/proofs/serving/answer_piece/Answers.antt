use Rattle.eden_wire.proofs.SessionLemmas.{piece_ok, piece_err}
use Rattle.eden_wire.proofs.serving.answer_piece.Goals as goal

pub returns-in-Ok-clause-answered : goal.returns-in-Ok-clause-answered
returns-in-Ok-clause-answered g c = piece_ok c.requires.idle c.answer_lines-used.ensures.answered c.in-Ok.ensures

pub returns-in-Err-clause-answered : goal.returns-in-Err-clause-answered
returns-in-Err-clause-answered g c = piece_err c.requires.idle c.answer_lines-used.ensures.answered c.in-Err.ensures
