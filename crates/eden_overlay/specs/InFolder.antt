-- A folder of files that are named by their numbers.
use Rattle.std.specs.Prelude.{◌+◌, ℕ, List, ◌++◌, decimal}
use Rattle.std.specs.Path.{with_separator}
use Rattle.eden_plain_files.specs.declared.fault.FolderFault.{FolderFault}
use Rattle.eden_plain_files.specs.declared.fault.FolderFault.TheVariants as folder
use Rattle.eden_overlay_format.specs.Content.{content_most}
use Rattle.eden_overlay.specs.declared.files.FilesFault.{FilesFault}
use Rattle.eden_overlay.specs.declared.files.FilesFault.TheVariants as fault

-- the file of that number: its digits behind the folder's path and a slash, which isn't written twice
abbrev pub file_path : List ℕ → ℕ → List ℕ
file_path folder number = with_separator folder ++ decimal number

-- bytes of the longest file that is read: the longest content and its header
abbrev pub longest_stored : ℕ
longest_stored = content_most + 64

-- want of memory stays what it is, and every other fault is a failure of the device
abbrev pub of_folder : FolderFault → FilesFault
of_folder folder.Missing = fault.Device
of_folder folder.NotPlain = fault.Device
of_folder folder.TooLong = fault.Device
of_folder (folder.Blocked o) = fault.Device
of_folder folder.Device = fault.Device
of_folder folder.Memory = fault.Memory
