-- The names and numbers of the faults that end a session.
use Rattle.std.specs.Prelude.{ℕ, List, codes}
use Rattle.eden_wire.specs.declared.session_fault.SessionFault.{SessionFault}
use Rattle.eden_wire.specs.declared.session_fault.SessionFault.TheVariants.{Read, Write, Memory}

abbrev pub session_fault_name : SessionFault → List ℕ
session_fault_name Read = codes "Read"
session_fault_name Write = codes "Write"
session_fault_name Memory = codes "Memory"

abbrev pub session_fault_number : SessionFault → ℕ
session_fault_number Read = 1
session_fault_number Write = 2
session_fault_number Memory = 3
