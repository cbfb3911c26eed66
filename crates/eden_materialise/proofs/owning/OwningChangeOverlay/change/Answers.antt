use Rattle.eden_materialise.proofs.Chains.{told_fault}
use Rattle.eden_materialise.proofs.owning.OwningChangeOverlay.change.Goals as goal

pub returns-in-Err : goal.returns-in-Err
returns-in-Err g c = record {
  ok = tt;
  stored = λ h. tt;
  err = c.in-Err.ensures.err;
  strays = c.in-Err.ensures.strays;
  fault = told_fault (g.F.Files.failures c.args.overlay.now) (g.F.Files.failures c.own_chain.new.overlay) c.in-Err.fault c.told.result c.told.ensures c.in-Err.ensures.counted;
  counted = tt;
}
