use Rattle.eden_shared.specs.Lanes.{names_of}
use Rattle.mount_tests.proofs.mounts.sharing.callers_and_fetchers_share.Given as goal

-- the ties that were just made
abbrev pub ghosts-race : goal.ghosts-race
ghosts-race g a = record { names = names_of a.ties.lanes.items }
