use Rattle.eden_import.proofs.StepLemmas.{length-queue-le}
use Rattle.eden_import.proofs.LawLemmas.{has_is_contains, each_stands_once, queued_are_wanted, wanted_stand, one_wants, one_leaves, all_are_met, wanters_are_marked, one_forgets}
use Rattle.eden_import.proofs.PassLemmas.{one_awaits, one_quits, forgetting_keeps}
use Rattle.eden_import.proofs.FlightLemmas.{marks_stay, wants_stay, one_is_taken, one_lands, passes_keep_flight}
use Rattle.eden_import.proofs.laws.queue_laws.Goals as goal

pub returns-clause-has : goal.returns-clause-has
returns-clause-has c = has_is_contains

pub returns-clause-once : goal.returns-clause-once
returns-clause-once c = each_stands_once

pub returns-clause-few : goal.returns-clause-few
returns-clause-few c = length-queue-le

pub returns-clause-wanted : goal.returns-clause-wanted
returns-clause-wanted c = queued_are_wanted

pub returns-clause-awaited : goal.returns-clause-awaited
returns-clause-awaited c = wanted_stand

pub returns-clause-wants : goal.returns-clause-wants
returns-clause-wants c = one_wants

pub returns-clause-leaves : goal.returns-clause-leaves
returns-clause-leaves c = one_leaves

pub returns-clause-awaits : goal.returns-clause-awaits
returns-clause-awaits c = one_awaits

pub returns-clause-quits : goal.returns-clause-quits
returns-clause-quits c = one_quits

pub returns-clause-met : goal.returns-clause-met
returns-clause-met c = all_are_met

pub returns-clause-marked : goal.returns-clause-marked
returns-clause-marked c = wanters_are_marked

pub returns-clause-forgets : goal.returns-clause-forgets
returns-clause-forgets c = one_forgets

pub returns-clause-marks : goal.returns-clause-marks
returns-clause-marks c = marks_stay

pub returns-clause-others : goal.returns-clause-others
returns-clause-others c = wants_stay

pub returns-clause-taken : goal.returns-clause-taken
returns-clause-taken c = one_is_taken

pub returns-clause-lands : goal.returns-clause-lands
returns-clause-lands c = one_lands

pub returns-clause-flight : goal.returns-clause-flight
returns-clause-flight c = passes_keep_flight

pub returns-clause-forgetting : goal.returns-clause-forgetting
returns-clause-forgetting c = forgetting_keeps
