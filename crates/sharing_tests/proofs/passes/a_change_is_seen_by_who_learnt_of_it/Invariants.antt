use Rattle.eden_shared.specs.Lanes.{names_of}
use Rattle.sharing_tests.proofs.passes.a_change_is_seen_by_who_learnt_of_it.Given as goal

-- the ties that were just made
abbrev pub ghosts-share : goal.ghosts-share
ghosts-share g a = record { names = names_of a.ties.lanes.items }
