-- Which fault stands for an error of the system.
use Rattle.std.specs.Prelude.{◌≡◌, ◌≢◌, Option, Some, None}
use Rattle.std.specs.IoError.{error_kind}
use Rattle.std.specs.declared.io.Error.{Error}
use Rattle.std.specs.declared.io.ErrorKind.TheVariants as error
use Rattle.eden_model.specs.declared.obstacle.Obstacle.{Obstacle}
use Rattle.eden_model.specs.declared.obstacle.Obstacle.TheVariants as obstacle
use Rattle.eden_plain_files.specs.declared.fault.FolderFault.{FolderFault}
use Rattle.eden_plain_files.specs.declared.fault.FolderFault.TheVariants as fault

-- want of memory stays what it is, and every other error is a failure of the device
pub record IsFailure (e : Error) (f : FolderFault) : Type 0 where
  pub memory : error_kind e ≡ error.OutOfMemory → f ≡ fault.Memory
  pub device : error_kind e ≢ error.OutOfMemory → f ≡ fault.Device

-- .. of storing: what keeps the device from it is told where the error says so
pub record IsStoreFailure (e : Error) (f : FolderFault) : Type 0 where
  pub space : error_kind e ≡ error.StorageFull → f ≡ fault.Blocked obstacle.NoSpace
  pub quota : error_kind e ≡ error.QuotaExceeded → f ≡ fault.Blocked obstacle.OverQuota
  pub large : error_kind e ≡ error.FileTooLarge → f ≡ fault.Blocked obstacle.TooLarge
  pub read_only : error_kind e ≡ error.ReadOnlyFilesystem → f ≡ fault.Blocked obstacle.ReadOnly
  pub other : error_kind e ≢ error.StorageFull → error_kind e ≢ error.QuotaExceeded → error_kind e ≢ error.FileTooLarge
      → error_kind e ≢ error.ReadOnlyFilesystem → IsFailure e f

-- what keeps the device from storing, if that is the fault
abbrev pub obstacle_of : FolderFault → Option Obstacle
obstacle_of (fault.Blocked o) = Some o
obstacle_of f = None
