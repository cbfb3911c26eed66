use Rattle.std.proofs.Common.{rules}
use Rattle.eden_fuse_format.specs.Answers.{dirent_text}
use Rattle.eden_fuse_format.specs.Members.{members_text}
use Rattle.eden_fuse_shown.proofs.listing.put_named.Goals as goal

pub returns-clause-told : goal.returns-clause-told
unfolding members_text dirent_text
returns-clause-told c = search rules

pub returns-clause-ok : goal.returns-clause-ok
unfolding members_text dirent_text
returns-clause-ok c = search rules
