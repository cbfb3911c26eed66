-- The names of an import's faults, and which errors they stand for.
use Rattle.std.specs.Prelude.{◌≡◌, ◌≢◌, ℕ, List, codes}
use Rattle.std.specs.IoError.{error_kind}
use Rattle.std.specs.declared.io.Error.{Error}
use Rattle.std.specs.declared.io.ErrorKind.TheVariants as error
use Rattle.eden_plain_files.specs.declared.fault.FolderFault.{FolderFault}
use Rattle.eden_plain_files.specs.declared.fault.FolderFault.TheVariants as file
use Rattle.eden_object_writer.specs.declared.fault.ImportFault.{ImportFault}
use Rattle.eden_object_writer.specs.declared.fault.ImportFault.TheVariants as fault

abbrev pub import_name : ImportFault → List ℕ
import_name fault.Device = codes "Device"
import_name fault.Memory = codes "Memory"
import_name fault.Kind = codes "Kind"
import_name fault.Name = codes "Name"
import_name fault.TooLarge = codes "TooLarge"

-- want of memory stays what it is, and every other error is a failure of the device
pub record IsFailure (e : Error) (f : ImportFault) : Type 0 where
  pub memory : error_kind e ≡ error.OutOfMemory → f ≡ fault.Memory
  pub device : error_kind e ≢ error.OutOfMemory → f ≡ fault.Device

-- why a file's content isn't had
abbrev pub of_file : FolderFault → ImportFault
of_file file.Missing = fault.Device
of_file file.NotPlain = fault.Kind
of_file file.TooLong = fault.TooLarge
of_file (file.Blocked o) = fault.Device
of_file file.Device = fault.Device
of_file file.Memory = fault.Memory
