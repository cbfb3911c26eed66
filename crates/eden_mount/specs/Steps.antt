-- What each event does to a mount, and when it answers what.
use Rattle.std.specs.Prelude.{◌≡◌, ◌<◌, ◌≤◌, ◌+◌, ◌⊎◌, ℕ, Bool, true, false, if◌then◌else◌, List, length, Option, Result, Ok, Err}
use Rattle.eden_model.specs.declared.fault.Cause.{Cause}
use Rattle.eden_model.specs.declared.fault.Cause.TheVariants as cause
use Rattle.eden_model.specs.declared.fault.StartFault.{StartFault}
use Rattle.eden_model.specs.declared.fault.StartFault.TheVariants.{NoPass, Busy, HistoryFull, Memory}
use Rattle.eden_model.specs.declared.id.Key.{Key}
use Rattle.eden_model.specs.declared.reply.Reply.{Reply}
use Rattle.eden_model.specs.declared.request.Request.{Request}
use Rattle.eden_model.specs.Trees.{Path}
use Rattle.eden_object.specs.Objects.{IsObject, IsFirstCause}
use Rattle.eden_import.specs.Keys.{has_key}
use Rattle.eden_import.specs.Queue as imports
use Rattle.eden_import.specs.Queue.{IsPass, mark_of, next_key, after_take, after_failed}
use Rattle.eden_mount.specs.declared.seats.Pending.{Pending}
use Rattle.eden_mount.specs.declared.events.Turned.{Turned}
use Rattle.eden_mount.specs.declared.events.Turned.TheVariants.{Done, Wait, Idle}
use Rattle.eden_mount.specs.declared.events.Arrived.{Arrived}
use Rattle.eden_mount.specs.declared.events.Arrived.TheVariants.{Stored, Refused, Stray}
use Rattle.eden_mount.specs.Tables.{Table, Ticks, KeepsBytes, Unloads, Syncs}
use Rattle.eden_mount.specs.Core.{Core, Pends, IsFree, taken_room, after_start, after_done, after_wait}
use Rattle.eden_mount.specs.Replying.{Replied, Awaits, ToldBy, WaitsBy}

-- ---- start

-- why a request isn't taken: each fault has its own case, and no two hold together
abbrev pub IsRefused : {T : Type 0} → Core T → ℕ → StartFault → Type 0
IsRefused m c NoPass = ¬ IsPass c m.queue
IsRefused m c Busy = IsPass c m.queue × (s : Pending) × Pends c s m
IsRefused m c (HistoryFull limit) = IsFree c m × (m.limit ≤ taken_room m) × (limit ≡ m.limit)
IsRefused m c Memory = IsFree c m × (taken_room m < m.limit)

abbrev pub Starts : {T : Type 0} → Core T → ℕ → Request → Result Unit StartFault → Core T → Type 0
Starts m c q (Ok u) m' = IsFree c m × (taken_room m < m.limit) × (m' ≡ after_start c q m)
Starts m c q (Err f) m' = IsRefused m c f × (m' ≡ m)

-- ---- turn

-- If `copies` is true, the history has a copy of each reply, for which there may be no memory.
module _ {T : Type 0} (A : Table T) (honest : Type 0) where
  -- nothing is pending: the clock advances, and nothing else changes
  abbrev pub IsIdle : Core T → ℕ → Core T → Type 0
  IsIdle m c m' = ((s : Pending) → ¬ Pends c s m) × Ticks A m.table m'.table × (m' ≡ record m { table = m'.table })

  -- the pass's request is finished, and its entry has the number
  abbrev pub IsDone : Bool → Core T → ℕ → ℕ → Reply → Core T → Type 0
  IsDone copies m c n r m' = (s : Pending) × Pends c s m × (n ≡ length m.history + 1)
      × (m' ≡ after_done c s.request r m'.table m)
      × ToldBy A honest copies m.table s.request (mark_of c m.queue) r m'.table

  -- the pass's request waits for the key
  abbrev pub IsWaiting : Core T → ℕ → Key → Core T → Type 0
  IsWaiting m c k m' = (s : Pending) × Pends c s m × (m' ≡ after_wait c k m'.table m)
      × WaitsBy A honest m.table s.request (mark_of c m.queue) k m'.table

  abbrev pub Turns : Bool → Core T → ℕ → Turned → Core T → Type 0
  Turns copies m c (Done n r) m' = IsDone copies m c n r m'
  Turns copies m c (Wait k) m' = IsWaiting m c k m'
  Turns copies m c Idle m' = IsIdle m c m'

  -- a turn of a pass with a request pending, whose clock advanced before
  abbrev pub GoesOn : Bool → Core T → ℕ → Turned → Core T → Type 0
  GoesOn copies m c (Done n r) m' = (s : Pending) × Pends c s m × (n ≡ length m.history + 1)
      × (m' ≡ after_done c s.request r m'.table m)
      × Replied A honest copies m.table s.request (mark_of c m.queue) r m'.table
  GoesOn copies m c (Wait k) m' = (s : Pending) × Pends c s m × (m' ≡ after_wait c k m'.table m)
      × Awaits A honest m.table s.request (mark_of c m.queue) k m'.table
  GoesOn copies m c Idle m' = ⊥

-- ---- ask

-- a request is started, and has its first turn; or it isn't taken
abbrev pub Asks : {T : Type 0} → Table T → Type 0 → Bool → Core T → ℕ → Request → Result Turned StartFault → Core T → Type 0
Asks A honest copies m c q (Ok turned) m' = IsFree c m × (taken_room m < m.limit) × Turns A honest copies (after_start c q m) c turned m'
Asks A honest copies m c q (Err f) m' = IsRefused m c f × (m' ≡ m)

-- ---- take

abbrev pub Takes : {T : Type 0} → Core T → Option Key → Core T → Type 0
Takes m o m' = (o ≡ next_key m.queue) × (m' ≡ record m { queue = after_take (next_key m.queue) m.queue })

-- ---- arrive, fail

-- why bytes that came for a key are no use: the first cause that they have; or they are the object, without memory
abbrev pub IsUseless : Key → List ℕ → Cause → Type 0
IsUseless k bytes x = IsFirstCause k.id k.kind bytes x ⊎ (IsObject k.id k.kind bytes × (x ≡ cause.Memory))

module _ {T : Type 0} (A : Table T) where
  abbrev pub Arrives : Core T → Key → List ℕ → Arrived → Core T → Type 0
  Arrives m k bytes Stored m' = (has_key k m.queue.flight ≡ true) × KeepsBytes A m.table k bytes m'.table
      × (m' ≡ record m { table = m'.table; queue = imports.after_done k m.queue })
  Arrives m k bytes (Refused x) m' = (has_key k m.queue.flight ≡ true) × IsUseless k bytes x
      × (m' ≡ record m { queue = after_failed k x m.queue })
  Arrives m k bytes Stray m' = (has_key k m.queue.flight ≡ false) × (m' ≡ m)

abbrev pub Fails : {T : Type 0} → Core T → Key → Cause → Bool → Core T → Type 0
Fails m k x b m' = (b ≡ has_key k m.queue.flight)
    × (m' ≡ record m { queue = (if has_key k m.queue.flight then after_failed k x m.queue else m.queue) })

-- ---- unload

abbrev pub LetsGo : {T : Type 0} → Table T → Type 0 → Core T → Path → ℕ → ℕ → Core T → Type 0
LetsGo A honest m p age gone m' = Unloads A honest m.table p age gone m'.table × (m' ≡ record m { table = m'.table })

-- ---- sync

abbrev pub IsSynced : {T : Type 0} → Table T → Type 0 → Core T → Bool → Core T → Type 0
IsSynced A honest m went m' = Syncs A honest m.table went m'.table × (m' ≡ record m { table = m'.table })
