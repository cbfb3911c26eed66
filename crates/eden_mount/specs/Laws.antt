-- What holds of every turn that ends in a wait.
use Rattle.std.specs.Prelude.{◌≡◌, ◌≢◌, ℕ, Bool, true, Some}
use Rattle.eden_model.specs.declared.fault.Cause.{Cause}
use Rattle.eden_model.specs.declared.id.Key.{Key}
use Rattle.eden_model.specs.Numbers.{Numbers}
use Rattle.eden_model.specs.Trees.{Tree}
use Rattle.eden_import.specs.Queue.{mark_of, stands}
use Rattle.eden_mount.specs.declared.events.Turned.TheVariants.{Wait}
use Rattle.eden_mount.specs.Tables.{Table}
use Rattle.eden_mount.specs.Core.{Core}
use Rattle.eden_mount.specs.Steps.{Turns}
use Rattle.eden_mount.specs.Kept.{IsMount}

module _ {T : Type 0} (A : Table T) (honest : Type 0) (opening : Tree) (numbers : Numbers) where
  -- the key that a turn waits for is then queued or in flight
  abbrev pub WaitsStand : Type 0
  WaitsStand = (copies : Bool) (m m' : Core T) (c : ℕ) (k : Key) → IsMount A honest opening numbers m → IsMount A honest opening numbers m'
      → Turns A honest copies m c (Wait k) m' → stands k m'.queue ≡ true

  -- a marked request that needs the marked key is told so, and waits for it no more
  abbrev pub MarkedWaitNoMore : Type 0
  MarkedWaitNoMore = (copies : Bool) (m m' : Core T) (c : ℕ) (k j : Key) (x : Cause) → mark_of c m.queue ≡ Some (k, x)
      → Turns A honest copies m c (Wait j) m' → j ≢ k
