-- The names and numbers of the faults that end a server's connection.
use Rattle.std.specs.Prelude.{ℕ, List, codes}
use Rattle.eden_remote.specs.declared.fault.AnswerFault.{AnswerFault}
use Rattle.eden_remote.specs.declared.fault.AnswerFault.TheVariants.{Read, Write}

abbrev pub answer_fault_name : AnswerFault → List ℕ
answer_fault_name Read = codes "Read"
answer_fault_name Write = codes "Write"

abbrev pub answer_fault_number : AnswerFault → ℕ
answer_fault_number Read = 1
answer_fault_number Write = 2
