use Rattle.eden_shared.specs.Lanes.{names_of}
use Rattle.mount_tests.proofs.mounts.sharing.a_missing_pass_tears_the_end.Given as goal

-- the ties that were just made
abbrev pub ghosts-tear : goal.ghosts-tear
ghosts-tear g a = record { names = names_of a.ties.lanes.items }
