use Rattle.mountd.proofs.Ended.{unserved_by}
use Rattle.mountd.proofs.server.serve_held.Goals as goal

pub returns-in_err-sources : goal.returns-in_err-sources
returns-in_err-sources g c = unserved_by _ _ _ c.in_err-sources.field-0.0 _ c.from_residual.ensures.1 c.in_err-sources.ensures.early
