-- What is seen of one caller's requests from outside.
use Rattle.std.specs.Prelude.{◌≡◌, ◌≤◌, ◌++◌, ◌⊎◌, ℕ, List, [], ◌∷◌, length, Result, Ok, Err}
use Rattle.eden_model.specs.declared.entry.Entry.{Entry}
use Rattle.eden_model.specs.declared.fault.CallFault.{CallFault}
use Rattle.eden_model.specs.declared.fault.CallFault.TheVariants as call
use Rattle.eden_model.specs.declared.fault.Cause.{Cause}
use Rattle.eden_model.specs.declared.fault.Fault.TheVariants as fault
use Rattle.eden_model.specs.declared.fault.StartFault.TheVariants as start
use Rattle.eden_model.specs.declared.id.Id.{Id}
use Rattle.eden_model.specs.declared.request.Request.{Request}
use Rattle.eden_model.specs.declared.reply.Reply.{Reply}
use Rattle.eden_model.specs.declared.reply.Reply.TheVariants as say
use Rattle.eden_model.specs.Histories.{entry}
use Rattle.eden_model.specs.Requests.{most_objects}
use Rattle.eden_source.specs.Asking.{Asked, heard}
use Rattle.eden_source.specs.Fetching.{Answer, Fetches}
use Rattle.eden_mount.specs.Serving.{HasFailed}

-- what was answered so far, and the source as it was left
pub record Ledger (S : Type 0) : Type 0 where
  pub history : List Entry
  pub source : S

abbrev pub ledger : {S : Type 0} → List Entry → S → Ledger S
ledger history source = record { history = history; source = source }

-- the history may become this long
module _ {S : Type 0} (fetched : S → Id → Answer → S → Type 0) (limit : ℕ) where
  -- A request was answered, and is one more entry of the history. For it the source was asked for at most one object for each
  -- place on its paths, and a fetch fault is of one that it was asked for and that failed so.
  pub record IsEntered (s : Ledger S) (q : Request) (r : Reply) (t : Ledger S) : Type 0 where
    pub asks : List Asked
    pub asked : Fetches fetched s.source (heard asks) t.source
    pub few : length asks ≤ most_objects q
    pub history : t.history ≡ s.history ++ entry 1 q r ∷ []
    pub failed : (id : Id) (x : Cause) → r ≡ say.Fault (fault.Fetch id x) → HasFailed asks id x

  -- .. or it wasn't taken, and nothing changed: the history is full, or there is no memory
  abbrev pub LedgerAnswers : Ledger S → Request → Result Reply CallFault → Ledger S → Type 0
  LedgerAnswers s q (Ok reply) t = IsEntered s q reply t
  LedgerAnswers s q (Err why) t = ((why ≡ call.Start (start.HistoryFull limit)) ⊎ (why ≡ call.Start start.Memory)) × (t ≡ s)
