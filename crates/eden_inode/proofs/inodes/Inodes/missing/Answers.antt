use Rattle.eden_model.specs.declared.kind.Origin.TheVariants as origin
use Rattle.eden_inode.proofs.inodes.Inodes.missing.Goals as goal

pub returns-in-None-clause-none : goal.returns-in-None-clause-none
returns-in-None-clause-none g c = λ i at. c.in-None.ensures.none (origin.Object i) at
