use Rattle.eden_coupling.proofs.Tables.{stamps_table, object_loads_table}
use Rattle.eden_coupling.proofs.KeptLemmas.{next_rises, stamps_kept, object_loads_kept}
use Rattle.eden_coupling.proofs.kept.kept_laws.Goals as goal

pub returns-clause-stamps_table : goal.returns-clause-stamps_table
returns-clause-stamps_table c = stamps_table

pub returns-clause-object_table : goal.returns-clause-object_table
returns-clause-object_table c = object_loads_table

pub returns-clause-next : goal.returns-clause-next
returns-clause-next c = next_rises

pub returns-clause-stamps : goal.returns-clause-stamps
returns-clause-stamps c = stamps_kept

pub returns-clause-object : goal.returns-clause-object
returns-clause-object c = object_loads_kept
