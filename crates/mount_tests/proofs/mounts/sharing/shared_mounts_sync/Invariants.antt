use Rattle.eden_shared.specs.Lanes.{names_of}
use Rattle.mount_tests.proofs.mounts.sharing.shared_mounts_sync.Given as goal

-- the ties that were just made
abbrev pub ghosts-sync : goal.ghosts-sync
ghosts-sync g a = record { names = names_of a.ties.lanes.items }
