use Rattle.eden_coupling.proofs.Sound.{ties_sound, numbers_below, rows_numbered, rows_once}
use Rattle.eden_coupling.proofs.Chain.{children_tied, strays_tied, root_tied}
use Rattle.eden_coupling.proofs.Going.{goes_tied}
use Rattle.eden_coupling.proofs.Chains.{marked_is}
use Rattle.eden_coupling.proofs.Materialised.{chain_sound, chain_tied}
use Rattle.eden_coupling.proofs.Changing.{changes_tied, unstored_tied, left_out_tied}
use Rattle.eden_coupling.proofs.Moved.{entry_tied, drop_tied, move_tied, new_file_tied, moves_kept, new_entry_tied}
use Rattle.eden_coupling.proofs.laws.tie_laws.Goals as goal

pub returns-clause-sound : goal.returns-clause-sound
returns-clause-sound c = ties_sound

pub returns-clause-goes : goal.returns-clause-goes
returns-clause-goes c = goes_tied

pub returns-clause-strays : goal.returns-clause-strays
returns-clause-strays c = strays_tied

pub returns-clause-children : goal.returns-clause-children
returns-clause-children c = children_tied

pub returns-clause-root : goal.returns-clause-root
returns-clause-root c = root_tied

pub returns-clause-marked : goal.returns-clause-marked
returns-clause-marked c = marked_is

pub returns-clause-chain_sound : goal.returns-clause-chain_sound
returns-clause-chain_sound c = chain_sound

pub returns-clause-chain : goal.returns-clause-chain
returns-clause-chain c = chain_tied

pub returns-clause-changes : goal.returns-clause-changes
returns-clause-changes c = changes_tied

pub returns-clause-unstored : goal.returns-clause-unstored
returns-clause-unstored c = unstored_tied

pub returns-clause-left_out : goal.returns-clause-left_out
returns-clause-left_out c = left_out_tied

pub returns-clause-entry : goal.returns-clause-entry
returns-clause-entry c = entry_tied

pub returns-clause-drops : goal.returns-clause-drops
returns-clause-drops c = drop_tied

pub returns-clause-moves : goal.returns-clause-moves
returns-clause-moves c = move_tied

pub returns-clause-new_file : goal.returns-clause-new_file
returns-clause-new_file c = new_file_tied

pub returns-clause-moves_kept : goal.returns-clause-moves_kept
returns-clause-moves_kept c = moves_kept

pub returns-clause-new_entry : goal.returns-clause-new_entry
returns-clause-new_entry c = new_entry_tied

pub returns-clause-numbers_below : goal.returns-clause-numbers_below
returns-clause-numbers_below c = numbers_below

pub returns-clause-rows_numbered : goal.returns-clause-rows_numbered
returns-clause-rows_numbered c = rows_numbered

pub returns-clause-rows_once : goal.returns-clause-rows_once
returns-clause-rows_once c F full x next t y z d e n m v w p h f q k g same = rows_once F full x next t y z d e n m v w p h f q k g same
