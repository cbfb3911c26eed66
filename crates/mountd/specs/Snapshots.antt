-- The commands that look at a closed overlay: the words of their lines, the names of their faults, and their statuses.
use Rattle.std.specs.Prelude.{ℕ, Bool, true, false, List, [], Result, Ok, Err, ⊤, codes}
use Rattle.std.specs.declared.io.Error.{Error}
use Rattle.eden_model.specs.declared.kind.Mode.{Mode}
use Rattle.eden_model.specs.declared.kind.Mode.TheVariants as mode
use Rattle.eden_snapshot.specs.declared.change.How.{How}
use Rattle.eden_snapshot.specs.declared.change.How.TheVariants as how
use Rattle.eden_snapshot.specs.declared.closed.ClosedFault.{ClosedFault}
use Rattle.eden_snapshot.specs.declared.closed.ClosedFault.TheVariants as closed
use Rattle.eden_snapshot.specs.declared.fault.SnapshotFault.{SnapshotFault}
use Rattle.eden_snapshot.specs.declared.fault.SnapshotFault.TheVariants as snapshot
use Rattle.mountd.specs.declared.snapshot.TakeFault.{TakeFault}
use Rattle.mountd.specs.declared.snapshot.TakeFault.TheVariants as take
use Rattle.mountd.specs.Endings.{told_status}

-- the name of why an overlay isn't one that was closed
abbrev pub closed_name : ClosedFault → List ℕ
closed_name closed.NotClean = codes "NotClean"
closed_name (closed.OtherRoot root) = codes "OtherRoot"
closed_name (closed.Damaged refusal) = codes "Damaged"
closed_name closed.Device = codes "Device"
closed_name closed.Memory = codes "Memory"

-- .. and of why there is no snapshot of one
abbrev pub snapshot_name : SnapshotFault → List ℕ
snapshot_name (snapshot.Dangling number) = codes "Dangling"
snapshot_name (snapshot.Damaged number refusal) = codes "Damaged"
snapshot_name (snapshot.TooDeep number) = codes "TooDeep"
snapshot_name (snapshot.TooLarge number) = codes "TooLarge"
snapshot_name (snapshot.Object cause) = codes "Object"
snapshot_name snapshot.Device = codes "Device"
snapshot_name snapshot.Sink = codes "Sink"
snapshot_name snapshot.Memory = codes "Memory"

-- the status of a snapshot, or of the telling of changes: by what it came to, and whether that could be written
abbrev pub taken_status : {T : Type 0} → Result T TakeFault → Result ⊤ Error → ℕ
taken_status (Ok _) written = told_status written
taken_status (Err (take.Closed fault)) written = 3
taken_status (Err (take.Snapshot fault)) written = 4

-- the letter of a change, as Git has it
abbrev pub how_letter : How → List ℕ
how_letter how.Added = codes "A"
how_letter how.Removed = codes "D"
how_letter how.Modified = codes "M"
how_letter how.Retyped = codes "T"

-- what stands there, or stood there if nothing does
abbrev pub mode_word : Mode → List ℕ
mode_word mode.File = codes "file"
mode_word mode.Exec = codes "exec"
mode_word mode.Link = codes "link"
mode_word mode.Dir = codes "dir"
mode_word mode.Gitlink = codes "submodule"

-- what is put after the path of a change that is reported by its top alone
abbrev pub whole_word : Bool → List ℕ
whole_word true = codes " whole"
whole_word false = []
