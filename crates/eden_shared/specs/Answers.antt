-- What an answer makes of an account.
use Rattle.std.specs.Prelude.{◌++◌, List, [], ◌∷◌, Option, Some, None}
use Rattle.eden_mount.specs.declared.seats.Pending.{Pending}
use Rattle.eden_shared.specs.declared.account.Account.{Account}
use Rattle.eden_shared.specs.declared.account.Told.{Told}
use Rattle.eden_shared.specs.declared.lanes.Answered.{Answered}
use Rattle.eden_shared.specs.Accounts.{told_as, account}

-- what is told of the pending request
abbrev pub told_of : Option Pending → Answered → List Told
told_of None a = []
told_of (Some s) a = told_as a.number s.request a.reply ∷ []

-- nothing is pending any more, and the pass was told so
abbrev pub after_answer : Answered → Account → Account
after_answer a x = account x.terms None (x.told ++ told_of x.pending a)
