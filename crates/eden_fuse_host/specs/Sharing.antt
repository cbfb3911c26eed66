-- What is left of a mount that was shown as a folder by several threads.
use Rattle.std.specs.Prelude.{◌≡◌, ℕ, List, Option, Result, ⊤}
use Rattle.eden_model.specs.Backing.{Backs}
use Rattle.eden_model.specs.Histories.{Legal, replay}
use Rattle.eden_model.specs.Numbers.{Numbers, replay_numbers}
use Rattle.eden_model.specs.Trees.{Tree}
use Rattle.eden_mount.specs.Core.{Core}
use Rattle.eden_mount.specs.Tables.{Table}
use Rattle.eden_shared.specs.declared.account.Terms.{Terms}
use Rattle.eden_shared.specs.Passes.{Agrees, Carried, newcomers}
use Rattle.eden_shared.specs.Terms.{Meets}
use Rattle.eden_fuse_session.specs.declared.receiver.Receiver.{Ghosts as Receiver}
use Rattle.eden_fuse_session.specs.declared.sender.Sender.{Ghosts as Sender}
use Rattle.eden_fuse_session.specs.declared.serving.SessionFault.{SessionFault}
use Rattle.eden_fuse_shown.specs.declared.manner.Manner.{Manner}
use Rattle.eden_fuse_host.specs.declared.sharing.FolderTable.{FolderTable}
use Rattle.eden_fuse_host.specs.Hands.{IsServed}
use Rattle.eden_fuse_host.specs.Lines.{Coming}

module _ {V O T : Type 0} (v : Receiver V) (o : Sender O) (Comes : Coming) (A : Table T) (honest : Type 0) (opening : Tree)
    (numbers : Numbers) where
  -- What is left of a mount that was opened so and shown: requests were answered in their turns with one pass, looks were made
  -- with the others, all that waited was stored at the end, or the first error reported, and the mount's history is what the passes
  -- were told. Nothing is pending. If the outside is honest, the
  -- history is one of the opening tree with its numbers, and the table shows the tree after it, and numbers that back those
  -- that it gave.
  pub record IsLeft (terms : Terms) (m : Manner) (said : Result ⊤ SessionFault) (unstored : Option ℕ) (ended : Core T) : Type 0 where
    pub left : List Carried
    pub served : IsServed v o Comes honest opening numbers m (newcomers terms 1 terms.passes) left said unstored
    pub agrees : Agrees A ended left
    pub kept : Meets A terms ended
    pub legal : honest → Legal opening numbers ended.history
    pub shown : honest → A.shown ended.table ≡ replay opening ended.history
    pub backed : honest → Backs (replay_numbers numbers ended.history) (A.numbers ended.table) (A.next ended.table)

  -- a mount that was opened so was shown
  pub record ShowsTable (terms : Terms) (m : Manner) (x : FolderTable T) : Type 0 where
    pub ended : Core T
    pub is : IsLeft terms m x.said x.unstored ended
    pub table : x.table ≡ ended.table
