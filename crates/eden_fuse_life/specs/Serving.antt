-- A folder served over a table.
use Rattle.std.specs.Prelude.{◌≡◌, ℕ, Bool}
use Rattle.eden_model.specs.declared.id.Id.{Id}
use Rattle.eden_model.specs.declared.world.World.{Ghosts}
use Rattle.eden_model.specs.Backing.{Backs}
use Rattle.eden_model.specs.Histories.{Legal, replay}
use Rattle.eden_model.specs.Numbers.{replay_numbers}
use Rattle.eden_source.specs.Fetching.{Answer}
use Rattle.eden_mount.specs.Serving.{Desk, Stays, SyncsDesk}
use Rattle.eden_mount.specs.Settings.{Room}
use Rattle.eden_mount.specs.Tables.{Table}
use Rattle.eden_stdio_life.specs.Calls.{CallAnswers}
use Rattle.eden_stdio_life.specs.Serving.{Begins}
use Rattle.eden_fuse_session.specs.declared.sender.Sender.{Ghosts as Sender}
use Rattle.eden_fuse_session.specs.Sending.{Known}
use Rattle.eden_fuse_session.specs.Turns.{Line}
use Rattle.eden_fuse_session.specs.Sessions.{MessageSession}
use Rattle.eden_fuse_shown.specs.declared.manner.Manner.{Manner}
use Rattle.eden_fuse_shown.specs.Beginning.{IsBlank}
use Rattle.eden_fuse_shown.specs.Showing.{Showing, Shows, StoresAll}
use Rattle.eden_fuse_life.specs.declared.serving.ServedFolder.{ServedFolder}

-- what a sender took, and how often it failed
abbrev pub line_of : {C : Type 0} → Sender C → C → Line
line_of sender c = (sender.sent c, sender.failures c)

module _ {W : Type 0} (w : Ghosts W) {S : Type 0} (fetched : S → Id → Answer → S → Type 0) {T : Type 0} (A : Table T) (copies : Bool) (limit : ℕ) where
  -- The folder was shown: each message that was received had its turn, by what the mount replied, and then all that waited was
  -- stored, or the first error reported. What the mount was opened with stays. If the outside is honest, its history is one of
  -- the opening tree with its numbers, and the table shows the tree after it, and numbers that back those that it gave.
  pub record ServesFolder (m : Manner) (r : Room) (t : T) (s : S) (line line' : Line) (waiting left : Known)
      (x : ServedFolder T S) : Type 0 where
    pub begun : Showing (Desk T S)
    pub begins : Begins r limit t s begun.mount
    pub manner : begun.manner ≡ m
    pub blank : IsBlank begun
    pub ended : Showing (Desk T S)
    pub session : MessageSession (Shows (CallAnswers fetched A w.honest copies) (SyncsDesk A w.honest)) (begun, line) (ended, line') waiting left x.said
    pub last : Desk T S
    pub stored : StoresAll (CallAnswers fetched A w.honest copies) ended.nodes ended.waits ended.mount x.unstored last
    pub stays : Stays A begun.mount.core last.core
    pub legal : w.honest → Legal w.opening w.numbers last.core.history
    pub shown : w.honest → A.shown last.core.table ≡ replay w.opening last.core.history
    pub backed : w.honest → Backs (replay_numbers w.numbers last.core.history) (A.numbers last.core.table) (A.next last.core.table)
    pub table : x.table ≡ last.core.table
    pub source : x.source ≡ last.source
