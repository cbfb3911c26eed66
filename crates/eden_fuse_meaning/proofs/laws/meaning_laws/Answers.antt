use Rattle.eden_fuse_meaning.proofs.Bounds.{asks_thrice, end_is_near}
use Rattle.eden_fuse_meaning.proofs.laws.meaning_laws.Goals as goal

pub returns-clause-asks_thrice : goal.returns-clause-asks_thrice
returns-clause-asks_thrice c = asks_thrice

pub returns-clause-end_is_near : goal.returns-clause-end_is_near
returns-clause-end_is_near c = end_is_near
