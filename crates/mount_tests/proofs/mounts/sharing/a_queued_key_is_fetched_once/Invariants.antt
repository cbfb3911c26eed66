use Rattle.eden_shared.specs.Lanes.{names_of}
use Rattle.mount_tests.proofs.mounts.sharing.a_queued_key_is_fetched_once.Given as goal

-- the ties that were just made
abbrev pub ghosts-meet : goal.ghosts-meet
ghosts-meet g a = record { names = names_of a.ties.lanes.items }
