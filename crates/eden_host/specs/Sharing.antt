-- What is left of a mount that was shared.
use Rattle.std.specs.Prelude.{◌≡◌, ℕ, List, [], Result, ⊤}
use Rattle.std.specs.declared.io.Read.{Ghosts as Read}
use Rattle.std.specs.declared.io.Write.{Ghosts as Write}
use Rattle.eden_model.specs.Backing.{Backs}
use Rattle.eden_model.specs.Histories.{Legal, replay}
use Rattle.eden_model.specs.Numbers.{Numbers, replay_numbers}
use Rattle.eden_model.specs.Trees.{Tree}
use Rattle.eden_mount.specs.Core.{Core}
use Rattle.eden_mount.specs.Kept.{core_from}
use Rattle.eden_mount.specs.Settings.{Room}
use Rattle.eden_mount.specs.Tables.{Table}
use Rattle.eden_shared.specs.declared.account.Terms.{Terms}
use Rattle.eden_shared.specs.Passes.{Agrees, Carried, newcomers}
use Rattle.eden_shared.specs.Terms.{Meets, terms_of}
use Rattle.eden_host.specs.declared.fault.HostFault.{HostFault}
use Rattle.eden_host.specs.declared.sharing.HostedTable.{HostedTable}
use Rattle.eden_host.specs.Sessions.{AreHosted}

-- what a mount of that room over that table, whose history has that limit, is opened with
abbrev pub terms_at : {T : Type 0} → Table T → Room → ℕ → T → Terms
terms_at A room limit table = terms_of A (core_from table room.queue room.seats [] limit)

module _ {T I O : Type 0} (A : Table T) (i : Read I) (o : Write O) (honest : Type 0) (opening : Tree) (numbers : Numbers) where
  -- What is left of a mount that was opened so and shared: guests were hosted with its passes, and the mount's history is what
  -- they were told. Nothing is pending. If the outside is honest, the history is one of the opening tree with its numbers, and
  -- the table shows the tree after it, and numbers that back those that it gave.
  pub record IsLeft (terms : Terms) (outcome : Result ⊤ HostFault) (ended : Core T) : Type 0 where
    pub left : List Carried
    pub hosted : AreHosted i o honest opening numbers (newcomers terms 1 terms.passes) left outcome
    pub agrees : Agrees A ended left
    pub kept : Meets A terms ended
    pub legal : honest → Legal opening numbers ended.history
    pub shown : honest → A.shown ended.table ≡ replay opening ended.history
    pub backed : honest → Backs (replay_numbers numbers ended.history) (A.numbers ended.table) (A.next ended.table)

  -- the guests of a mount that was opened so were hosted
  pub record HostsTable (terms : Terms) (x : HostedTable T) : Type 0 where
    pub ended : Core T
    pub is : IsLeft terms x.outcome ended
    pub table : x.table ≡ ended.table
