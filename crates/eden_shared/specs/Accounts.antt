-- What each pass was told, and what the lock and a pass both say of the pass.
use Rattle.std.specs.Prelude.{ℕ, suc, ◌==◌, List, [], ◌∷◌, if◌then◌else◌, Option}
use Rattle.eden_model.specs.declared.entry.Entry.{Entry}
use Rattle.eden_model.specs.declared.request.Request.{Request}
use Rattle.eden_model.specs.declared.reply.Reply.{Reply}
use Rattle.eden_mount.specs.declared.seats.Pending.{Pending}
use Rattle.eden_shared.specs.declared.account.Account.{Account}
use Rattle.eden_shared.specs.declared.account.Terms.{Terms}
use Rattle.eden_shared.specs.declared.account.Told.{Told}

abbrev pub told_as : ℕ → Request → Reply → Told
told_as n q r = record { number = n; request = q; reply = r }

-- a request that is pending, and how long the history was at its start
abbrev pub pended : Request → ℕ → Pending
pended q n = record { request = q; since = n }

abbrev pub account : Terms → Option Pending → List Told → Account
account terms s ts = record { terms = terms; pending = s; told = ts }

-- the entries of pass c, if the first has the number n
abbrev pub told_by : ℕ → ℕ → List Entry → List Told
told_by c n [] = []
told_by c n (e ∷ es) = if e.pass == c then told_as n e.request e.reply ∷ told_by c (suc n) es else told_by c (suc n) es

-- the accounts of the passes from c on: their seats, and their entries
abbrev pub accounts : Terms → ℕ → List (Option Pending) → List Entry → List Account
accounts terms c [] history = []
accounts terms c (s ∷ seats) history = account terms s (told_by c 1 history) ∷ accounts terms (suc c) seats history
