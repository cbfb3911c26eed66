use Rattle.eden_repair.proofs.Looking.{saves_none}
use Rattle.eden_repair.proofs.saved.numbers_at.Goals as goal

pub returns-then-not-branch-clause-held : goal.returns-then-not-branch-clause-held
returns-then-not-branch-clause-held g c = λ honest. saves_none (g.F.Files.stored c.args.files.now) c.args.number c.args.tree (c.in_ok-has_numbers_at.ensures.none honest c.if-not-branch.true)
