-- Files behind a gate, which lets calls pass or not.
use Rattle.std.specs.Prelude.{◌≡◌, ◌-◌, ◌==◌, ℕ, Bool, false, not, Result, Err}
use Rattle.eden_overlay.specs.declared.files.FilesFault.{FilesFault}
use Rattle.eden_overlay.specs.declared.files.FilesFault.TheVariants as fault

-- the files, their gate, and how many calls answered that the device failed
pub record Gated (F G : Type 0) : Type 0 where
  pub files : F
  pub gate : G
  pub failures : ℕ

-- of the calls to come, number `old` didn't pass, counted from 1 (0: each passes); one of them came
abbrev pub IsCall : ℕ → Bool → ℕ → Type 0
IsCall old passes new = (passes ≡ not (old == 1)) × (new ≡ old - 1)

-- the gate let the call pass or not; what doesn't pass is a failure, and doesn't reach the files
pub record Calls {F G T : Type 0} (passed : G → Bool → G → Type 0) (old : Gated F G) (answer : Result T FilesFault) (new : Gated F G) : Type 0 where
  pub passes : Bool
  pub gate : passed old.gate passes new.gate
  pub stopped : passes ≡ false → (answer ≡ Err fault.Device) × (new.files ≡ old.files)
