use Rattle.eden_fuse_format.proofs.SpellingLemmas.{spelled_is_read}
use Rattle.eden_fuse_format.proofs.MessageLemmas.{one_message}
use Rattle.eden_fuse_format.proofs.laws.message_laws.Goals as goal

pub returns-clause-spelled_is_read : goal.returns-clause-spelled_is_read
returns-clause-spelled_is_read c = spelled_is_read

pub returns-clause-one_message : goal.returns-clause-one_message
returns-clause-one_message c = one_message
