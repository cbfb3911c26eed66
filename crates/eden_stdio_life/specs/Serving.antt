-- One caller served over a table.
use Rattle.std.specs.Prelude.{◌≡◌, ℕ, Bool, []}
use Rattle.std.specs.List.{AllByRecursion}
use Rattle.eden_model.specs.declared.id.Id.{Id}
use Rattle.eden_model.specs.Backing.{Backs}
use Rattle.eden_model.specs.Histories.{Legal, replay}
use Rattle.eden_model.specs.Numbers.{Numbers, replay_numbers}
use Rattle.eden_model.specs.Trees.{Tree}
use Rattle.eden_source.specs.Fetching.{Answer}
use Rattle.eden_mount.specs.Kept.{core_from}
use Rattle.eden_mount.specs.Serving.{Desk, IsAtRest, Stays}
use Rattle.eden_mount.specs.Settings.{Room}
use Rattle.eden_mount.specs.Tables.{Table}
use Rattle.eden_wire.specs.Serving.{Known, Session}
use Rattle.eden_stdio_life.specs.declared.serving.Served.{Served}
use Rattle.eden_stdio_life.specs.Calls.{CallAnswers, MayBeTold}

-- a caller in whose mount of that room nothing has happened, and whose source wasn't asked; the history may become this long
pub record Begins {T S : Type 0} (r : Room) (limit : ℕ) (t : T) (s : S) (d : Desk T S) : Type 0 where
  pub core : d.core ≡ core_from t r.queue r.seats [] limit
  pub source : d.source ≡ s
  pub rest : IsAtRest d.core

module _ {S : Type 0} (fetched : S → Id → Answer → S → Type 0) {T : Type 0} (A : Table T) (honest : Type 0) (copies : Bool) (limit : ℕ) where
  -- The caller's session was served: the bytes that were read are its lines, and those that were written their answers'
  -- texts. A request wasn't taken for the history's limit or for want of memory alone, and what the mount was opened with stays.
  -- If the outside is honest, its history is one of the opening tree with its numbers, and the table shows the tree after
  -- it, and numbers that back those that it gave.
  pub record ServesCaller (opening : Tree) (numbers : Numbers) (r : Room) (t : T) (s : S) (input output : Known × Known) (x : Served T S) : Type 0 where
    pub begun : Desk T S
    pub begins : Begins r limit t s begun
    pub ended : Desk T S
    pub session : Session (CallAnswers fetched A honest copies) (begun, ended) input output x.said
    pub told : AllByRecursion (MayBeTold limit) session.given
    pub stays : Stays A begun.core ended.core
    pub legal : honest → Legal opening numbers ended.core.history
    pub shown : honest → A.shown ended.core.table ≡ replay opening ended.core.history
    pub backed : honest → Backs (replay_numbers numbers ended.core.history) (A.numbers ended.core.table) (A.next ended.core.table)
    pub table : x.table ≡ ended.core.table
    pub source : x.source ≡ ended.source
