use Rattle.eden_tree.proofs.Edits.{puts_one, drops_one, changes_one, reads_on, edits_on, edits_there, edits_not_beside, edits_one, edits_nothing, edits_same, edits_alike, edits_twice, puts_at}
use Rattle.eden_tree.proofs.Edits.{drops_at, stamps_along, holds_what_was_put, puts_back_child, steps_down, steps_back}
use Rattle.eden_tree.proofs.Lookups.{puts_undone, drops_undone, sets_undone}
use Rattle.eden_tree.proofs.Positions.{splits, puts_between}
use Rattle.eden_tree.proofs.laws.directory_laws.Goals as goal

pub returns-clause-puts : goal.returns-clause-puts
returns-clause-puts c = puts_one

pub returns-clause-drops : goal.returns-clause-drops
returns-clause-drops c = drops_one

pub returns-clause-changes : goal.returns-clause-changes
returns-clause-changes c = changes_one

pub returns-clause-reads_on : goal.returns-clause-reads_on
returns-clause-reads_on c = reads_on

pub returns-clause-edits_on : goal.returns-clause-edits_on
returns-clause-edits_on c = edits_on

pub returns-clause-edits_there : goal.returns-clause-edits_there
returns-clause-edits_there c = edits_there

pub returns-clause-not_beside : goal.returns-clause-not_beside
returns-clause-not_beside c = edits_not_beside

pub returns-clause-edits_one : goal.returns-clause-edits_one
returns-clause-edits_one c = edits_one

pub returns-clause-edits_nothing : goal.returns-clause-edits_nothing
returns-clause-edits_nothing c = edits_nothing

pub returns-clause-edits_same : goal.returns-clause-edits_same
returns-clause-edits_same c = edits_same

pub returns-clause-edits_twice : goal.returns-clause-edits_twice
returns-clause-edits_twice c = edits_twice

pub returns-clause-puts_at : goal.returns-clause-puts_at
returns-clause-puts_at c = puts_at

pub returns-clause-drops_at : goal.returns-clause-drops_at
returns-clause-drops_at c = drops_at

pub returns-clause-stamps : goal.returns-clause-stamps
returns-clause-stamps c = stamps_along

pub returns-clause-holds : goal.returns-clause-holds
returns-clause-holds c = holds_what_was_put

pub returns-clause-same_child : goal.returns-clause-same_child
returns-clause-same_child c = puts_back_child

pub returns-clause-steps_down : goal.returns-clause-steps_down
returns-clause-steps_down c = steps_down

pub returns-clause-steps_back : goal.returns-clause-steps_back
returns-clause-steps_back c = steps_back

pub returns-clause-puts_undone : goal.returns-clause-puts_undone
returns-clause-puts_undone c = puts_undone

pub returns-clause-drops_undone : goal.returns-clause-drops_undone
returns-clause-drops_undone c = drops_undone

pub returns-clause-sets_undone : goal.returns-clause-sets_undone
returns-clause-sets_undone c = sets_undone

pub returns-clause-splits : goal.returns-clause-splits
returns-clause-splits c = splits

pub returns-clause-between : goal.returns-clause-between
returns-clause-between c = puts_between

pub returns-clause-edits_alike : goal.returns-clause-edits_alike
returns-clause-edits_alike c = edits_alike
