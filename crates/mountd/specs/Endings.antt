-- How a run ends: the names of its faults, and its status.
use Rattle.std.specs.Prelude.{ℕ, ◌==◌, if◌then◌else◌, List, Result, Ok, Err, ⊤, codes}
use Rattle.std.specs.declared.io.Error.{Error}
use Rattle.eden_overlay.specs.declared.files.FilesFault.{FilesFault}
use Rattle.eden_overlay.specs.declared.files.FilesFault.TheVariants as files
use Rattle.eden_checkout.specs.declared.fault.OpenFault.{OpenFault}
use Rattle.eden_checkout.specs.declared.fault.OpenFault.TheVariants as opens
use Rattle.eden_checkout.specs.declared.tidying.TidyFault.{TidyFault}
use Rattle.eden_checkout.specs.declared.tidying.TidyFault.TheVariants as tidy
use Rattle.eden_overlay.specs.declared.rescan.RescanFault.{RescanFault}
use Rattle.eden_overlay.specs.declared.rescan.RescanFault.TheVariants as rescan
use Rattle.eden_dematerialise.specs.declared.fault.DematerialiseFault.{DematerialiseFault}
use Rattle.eden_dematerialise.specs.declared.fault.DematerialiseFault.TheVariants as dematerialise
use Rattle.eden_fuse_life.specs.declared.fault.FolderFault.{FolderFault}
use Rattle.eden_fuse_life.specs.declared.fault.FolderFault.TheVariants as folder
use Rattle.eden_fuse_session.specs.declared.serving.SessionFault.{SessionFault}
use Rattle.eden_fuse_session.specs.declared.serving.SessionFault.TheVariants as session
use Rattle.eden_git.specs.declared.fault.GitFault.{GitFault}
use Rattle.eden_git.specs.declared.fault.GitFault.TheVariants as git
use Rattle.eden_stdio_life.specs.declared.fault.LifeFault.{LifeFault}
use Rattle.eden_stdio_life.specs.declared.fault.LifeFault.TheVariants as life
use Rattle.eden_serve_life.specs.declared.fault.SharedLifeFault.{SharedLifeFault}
use Rattle.eden_serve_life.specs.declared.fault.SharedLifeFault.TheVariants as shared
use Rattle.eden_object_writer.specs.declared.fault.ImportFault.{ImportFault}
use Rattle.eden_remote.specs.declared.fault.AnswerFault.{AnswerFault}
use Rattle.mountd.specs.declared.hold.HoldFault.{HoldFault}
use Rattle.mountd.specs.declared.hold.HoldFault.TheVariants as hold
use Rattle.mountd.specs.declared.server.ServerFault.{ServerFault}
use Rattle.mountd.specs.declared.server.ServerFault.TheVariants as server

-- the name of why the overlay wasn't opened
abbrev pub open_name : OpenFault → List ℕ
open_name opens.NotClean = codes "NotClean"
open_name (opens.OtherRoot root) = codes "OtherRoot"
open_name (opens.Damaged number refusal) = codes "Damaged"
open_name opens.Device = codes "Device"
open_name opens.Memory = codes "Memory"
open_name (opens.Dangling number) = codes "Dangling"
open_name (opens.Twice number) = codes "Twice"

-- .. of why the repository of its objects wasn't
abbrev pub repository_name : GitFault → List ℕ
repository_name git.Missing = codes "Missing"
repository_name git.Format = codes "Format"
repository_name git.Device = codes "Device"
repository_name git.Memory = codes "Memory"

-- .. of why the overlay wasn't closed
abbrev pub close_name : FilesFault → List ℕ
close_name files.Device = codes "Device"
close_name files.Memory = codes "Memory"

-- .. of why the directory, or the address, isn't held
abbrev pub hold_name : HoldFault → List ℕ
hold_name hold.Locked = codes "Locked"
hold_name hold.Device = codes "Device"
hold_name hold.Memory = codes "Memory"

-- the status of a life that ended so
abbrev pub status_of : Result ⊤ LifeFault → ℕ
status_of (Ok _) = 0
status_of (Err (life.Open fault)) = 3
status_of (Err (life.Session fault)) = 4
status_of (Err (life.Close fault)) = 4

-- .. of a shared one
abbrev pub shared_status : Result ⊤ SharedLifeFault → ℕ
shared_status (Ok _) = 0
shared_status (Err (shared.Open fault)) = 3
shared_status (Err shared.Listen) = 4
shared_status (Err (shared.Session fault)) = 4
shared_status (Err (shared.Close fault)) = 4

-- .. of a folder's, and the name of why the session with the kernel ended early
abbrev pub folder_status : Result ⊤ FolderFault → ℕ
folder_status (Ok _) = 0
folder_status (Err (folder.Open fault)) = 3
folder_status (Err (folder.Session fault)) = 4
folder_status (Err (folder.Unstored errno)) = 4
folder_status (Err (folder.Close fault)) = 4

abbrev pub session_name : SessionFault → List ℕ
session_name session.Receive = codes "Receive"
session_name session.Memory = codes "Memory"

-- .. and of the error upon which what was written last wasn't stored, as Linux has it
abbrev pub store_name : ℕ → List ℕ
store_name errno =
    if errno == 5 then codes "EIO" else if errno == 12 then codes "ENOMEM" else if errno == 27 then codes "EFBIG"
    else if errno == 28 then codes "ENOSPC" else if errno == 30 then codes "EROFS" else if errno == 36 then codes "ENAMETOOLONG"
    else if errno == 116 then codes "ESTALE" else if errno == 122 then codes "EDQUOT" else codes "Refused"

-- .. and of a server of objects; how it ended, by how its connections were taken and served
abbrev pub server_status : Result ⊤ ServerFault → ℕ
server_status (Ok _) = 0
server_status (Err (server.Open fault)) = 3
server_status (Err (server.Listen fault)) = 4
server_status (Err (server.Session fault)) = 4

abbrev pub first_server_fault : Result ⊤ HoldFault → Result ⊤ AnswerFault → Result ⊤ ServerFault
first_server_fault (Err fault) served = Err (server.Listen fault)
first_server_fault (Ok _) (Err fault) = Err (server.Session fault)
first_server_fault (Ok _) (Ok _) = Ok tt

-- .. and of an import
abbrev pub import_status : Result ⊤ ImportFault → ℕ
import_status (Ok _) = 0
import_status (Err fault) = 5

-- .. and of what was done well: by whether it could be written
abbrev pub told_status : Result ⊤ Error → ℕ
told_status (Ok _) = 0
told_status (Err error) = 4

-- .. and of the tidying of an overlay, by what it came to, and whether that could be written
abbrev pub tidied_status : Result (Result ⊤ Error) TidyFault → ℕ
tidied_status (Ok written) = told_status written
tidied_status (Err (tidy.Open fault)) = 3
tidied_status (Err (tidy.Remove fault)) = 4

-- .. and of an overlay that a rescan refuses though it was repaired, or that wasn't repaired to the end
abbrev pub repair_status : RescanFault → ℕ
repair_status (rescan.Dangling k) = 3
repair_status (rescan.Twice k) = 3
repair_status (rescan.Damaged k refusal) = 3
repair_status rescan.Device = 4
repair_status rescan.Memory = 4

-- .. and of its repair, by what it came to, whether that was stored, and whether it could be written
abbrev pub repaired_status : Result ℕ RescanFault → Result ⊤ FilesFault → Result ⊤ Error → ℕ
repaired_status (Err fault) stored written = repair_status fault
repaired_status (Ok _) (Err fault) written = 4
repaired_status (Ok _) (Ok _) written = told_status written

-- the name of why an overlay doesn't stand on another tree
abbrev pub dematerialise_name : DematerialiseFault → List ℕ
dematerialise_name dematerialise.NotClean = codes "NotClean"
dematerialise_name (dematerialise.TooDeep number) = codes "TooDeep"
dematerialise_name (dematerialise.Object cause) = codes "Object"
dematerialise_name dematerialise.Device = codes "Device"
dematerialise_name dematerialise.Memory = codes "Memory"

-- .. and the status of that, by what it came to, and whether the disk has it
abbrev pub dematerialised_status : Result ⊤ DematerialiseFault → Result ⊤ FilesFault → ℕ
dematerialised_status (Err fault) stored = 4
dematerialised_status (Ok _) (Err fault) = 4
dematerialised_status (Ok _) (Ok _) = 0
