use Rattle.eden_shared.specs.Lanes.{names_of}
use Rattle.mount_tests.proofs.mounts.sharing.a_learnt_number_is_awaited.Given as goal

-- the ties that were just made
abbrev pub ghosts-learn : goal.ghosts-learn
ghosts-learn g a = record { names = names_of a.ties.lanes.items }
