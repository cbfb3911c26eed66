-- Why a repository, or a file of it, isn't opened.
use Rattle.eden_plain_files.specs.declared.fault.FolderFault.{FolderFault}
use Rattle.eden_plain_files.specs.declared.fault.FolderFault.TheVariants as folder
use Rattle.eden_git.specs.declared.fault.GitFault.{GitFault}
use Rattle.eden_git.specs.declared.fault.GitFault.TheVariants as fault

-- one of its files is missing, or is there and can't be read
abbrev pub fault_of : FolderFault → GitFault
fault_of folder.Missing = fault.Missing
fault_of folder.NotPlain = fault.Device
fault_of folder.TooLong = fault.Device
fault_of (folder.Blocked o) = fault.Device
fault_of folder.Device = fault.Device
fault_of folder.Memory = fault.Memory

-- a file is there and can't be opened, and it isn't for want of memory
abbrev pub IsDamage : FolderFault → Type 0
IsDamage folder.Missing = ⊥
IsDamage folder.NotPlain = Unit {0}
IsDamage folder.TooLong = Unit {0}
IsDamage (folder.Blocked o) = Unit {0}
IsDamage folder.Device = Unit {0}
IsDamage folder.Memory = ⊥
