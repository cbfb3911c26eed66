-- Why the directory of the changes isn't held.
use Rattle.std.specs.Prelude.{◌≡◌, ◌≢◌}
use Rattle.std.specs.IoError.{error_kind}
use Rattle.std.specs.declared.fs.TryLockError.{TryLockError}
use Rattle.std.specs.declared.fs.TryLockError.TheVariants as lock
use Rattle.std.specs.declared.io.Error.{Error}
use Rattle.std.specs.declared.io.ErrorKind.TheVariants.{OutOfMemory}
use Rattle.eden_overlay.specs.declared.files.FilesFault.{FilesFault}
use Rattle.eden_overlay.specs.declared.files.FilesFault.TheVariants as files
use Rattle.mountd.specs.declared.hold.HoldFault.{HoldFault}
use Rattle.mountd.specs.declared.hold.HoldFault.TheVariants as hold

-- an error of the device is reported as want of memory or as the device's
abbrev pub IsDeviceFault : Error → HoldFault → Type 0
IsDeviceFault e f = (error_kind e ≡ OutOfMemory → f ≡ hold.Memory) × (error_kind e ≢ OutOfMemory → f ≡ hold.Device)

-- .. and an error of the lock as such a one, or that another program has it
abbrev pub IsLockFault : TryLockError → HoldFault → Type 0
IsLockFault lock.WouldBlock f = f ≡ hold.Locked
IsLockFault (lock.Error e) f = IsDeviceFault e f

-- .. and a fault of the directory's files as what it is
abbrev pub of_files : FilesFault → HoldFault
of_files files.Device = hold.Device
of_files files.Memory = hold.Memory
