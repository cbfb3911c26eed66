use Rattle.mountd.specs.declared.server.ServerFault.TheVariants as server
use Rattle.mountd.proofs.Ended.{unserved}
use Rattle.mountd.proofs.server.serve_objects.Goals as goal

pub returns-in-Err : goal.returns-in-Err
returns-in-Err g c = unserved _ _ _ (server.Listen c.in-Err.fault) tt
