use Rattle.eden_fuse_nodes.specs.Tables.{place_of}
use Rattle.eden_fuse_shown.specs.Naming.{veiled_name}
use Rattle.eden_fuse_shown.proofs.Keeping.{lets_stay}
use Rattle.eden_fuse_shown.proofs.shown.Shown.let_go_of.Goals as goal

pub returns-in-Err : goal.returns-in-Err
returns-in-Err g c = lets_stay g.M.Mount.answers (veiled_name (place_of c.args.self.now.nodes c.args.node)) c.args.self.now
