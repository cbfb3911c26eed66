-- What every mount keeps.
use Rattle.std.specs.Prelude.{◌≡◌, ◌<◌, ◌≤◌, ◌^◌, ℕ, List, length, slice_get, Option, Some, None}
use Rattle.eden_model.specs.declared.entry.Entry.{Entry}
use Rattle.eden_model.specs.Backing.{Backs}
use Rattle.eden_model.specs.Numbers.{Numbers, replay_numbers}
use Rattle.eden_model.specs.Trees.{Tree}
use Rattle.eden_model.specs.Histories.{Legal, replay}
use Rattle.eden_import.specs.Queue.{Queue, IsQueue, IsPass, want_of, mark_of}
use Rattle.eden_mount.specs.declared.seats.Pending.{Pending}
use Rattle.eden_mount.specs.Tables.{Table}
use Rattle.eden_mount.specs.Core.{Core, Pends, IsFree, taken_room}

-- how the fields of a mount are seen
abbrev pub core_from : {T : Type 0} → T → Queue → List (Option Pending) → List Entry → ℕ → Core T
core_from t q seats history limit = record { table = t; queue = q; seats = seats; history = history; limit = limit }

module _ {T : Type 0} (A : Table T) (honest : Type 0) (opening : Tree) (numbers : Numbers) where
  pub record IsMount (m : Core T) : Type 0 where
    pub queue : IsQueue m.queue
    -- one seat for each pass
    pub seats : length m.seats ≡ m.queue.passes
    -- a pass with nothing pending wants nothing and has no mark
    pub rests : (c : ℕ) → IsFree c m → (want_of c m.queue ≡ None) × (mark_of c m.queue ≡ None)
    -- each pending request has its place in the history
    pub room : taken_room m ≤ m.limit
    pub limit : m.limit < 2 ^ 64
    -- each began within the history
    pub since : (c : ℕ) (s : Pending) → Pends c s m → s.since ≤ length m.history
    -- each entry is one of its passes'
    pub entries : (i : ℕ) (e : Entry) → slice_get m.history i ≡ Some e → IsPass e.pass m.queue
    -- the history is one that the opening tree has with its numbers, and the mount shows the tree after it
    pub legal : honest → Legal opening numbers m.history
    pub shown : honest → A.shown m.table ≡ replay opening m.history
    -- what its replies gave of numbers it shows still, and what they spent it shows nowhere else
    pub backed : honest → Backs (replay_numbers numbers m.history) (A.numbers m.table) (A.next m.table)

  -- .. and its entry finds room in the history
  abbrev pub IsHeld : ℕ → Core T → Type 0
  IsHeld room m = IsMount m × (taken_room m ≤ room)
