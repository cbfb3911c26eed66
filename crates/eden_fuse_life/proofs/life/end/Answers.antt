use Rattle.std.proofs.Common.{refl}
use Rattle.eden_fuse_life.proofs.life.end.Goals as goal

pub returns-clause-ends : goal.returns-clause-ends
returns-clause-ends g c = λ N backing. record {
  files = c.close-files.ensures N backing;
  source_left = refl;
  told = c.first_fault.ensures;
}
