-- What lies under the lock.
use Rattle.std.specs.Prelude.{◌≡◌, ℕ, Bool, List}
use Rattle.eden_mount.specs.Tables.{Table}
use Rattle.eden_mount.specs.Core.{Core}
use Rattle.eden_shared.specs.declared.account.Terms.{Terms}
use Rattle.eden_shared.specs.declared.lanes.Lane.{Lane}
use Rattle.eden_shared.specs.Accounts.{accounts}
use Rattle.eden_shared.specs.Lanes.{names_of, values_of}
use Rattle.eden_shared.specs.Terms.{Meets}

pub record Guarded (T : Type 0) : Type 0 where
  pub mount : Core T
  -- no request is started any more
  pub stopped : Bool

abbrev pub guarded : {T : Type 0} → Core T → Bool → Guarded T
guarded m stopped = record { mount = m; stopped = stopped }

-- the ends have these names, and hold the mount's seats, the entries of each pass, and what the mount was opened with
pub record IsTied {T : Type 0} (A : Table T) (names : List ℕ) (lanes : List Lane) (m : Core T) : Type 0 where
  pub named : names_of lanes ≡ names
  pub terms : Terms
  pub valued : values_of lanes ≡ accounts terms 1 m.seats m.history
  pub kept : Meets A terms m
