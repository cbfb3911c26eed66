use Rattle.eden_shared.specs.Lanes.{names_of}
use Rattle.sharing_tests.proofs.callers.callers_keep_a_history_of_the_oracle.Given as goal

-- the ties that were just made
abbrev pub ghosts-share : goal.ghosts-share
ghosts-share g a = record { names = names_of a.ties.lanes.items }
