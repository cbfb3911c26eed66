-- A folder of object files.
use Rattle.std.specs.Prelude.{◌≡◌, ◌≤◌, ℕ, List, length, take, drop, Err, IfOk}
use Rattle.std.specs.Path.{path_join}
use Rattle.hex.specs.Hex.{encode_lower}
use Rattle.eden_plain_files.specs.Folders.{Folder}
use Rattle.eden_plain_files.specs.declared.fault.FolderFault.{FolderFault}
use Rattle.eden_plain_files.specs.declared.fault.FolderFault.TheVariants as folder
use Rattle.eden_model.specs.declared.id.Id.{Id}
use Rattle.eden_model.specs.declared.fault.Cause.{Cause}
use Rattle.eden_model.specs.declared.fault.Cause.TheVariants as cause
use Rattle.eden_model.specs.Failures.{one_more}
use Rattle.eden_object.specs.Frames.{longest_framed}
use Rattle.eden_source.specs.Fetching.{Answer}

-- the object's file: `xx/` and 38 hexadecimal digits below the folder
abbrev pub object_path : List ℕ → Id → List ℕ
object_path folder id = path_join (path_join folder (encode_lower (take 1 id.bytes))) (encode_lower (drop 1 id.bytes))

-- what is no plain file is there, and can't be read
abbrev pub of_folder : FolderFault → Cause
of_folder folder.Missing = cause.Missing
of_folder folder.NotPlain = cause.Device
of_folder folder.TooLong = cause.TooLarge
of_folder (folder.Blocked o) = cause.Device
of_folder folder.Device = cause.Device
of_folder folder.Memory = cause.Memory

-- what is known of a real folder: it stays where it is, each failure is counted once, and no answer is over the bound
pub record FetchedFromFolder (old : Folder) (id : Id) (answer : Answer) (new : Folder) : Type 0 where
  pub path : new.path ≡ old.path
  pub counted : answer ≡ Err cause.Device → new.failures ≡ one_more old.failures
  pub bounded : IfOk answer (λ framed. length framed ≤ longest_framed)
