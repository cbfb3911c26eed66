use Rattle.eden_shared.specs.Lanes.{names_of}
use Rattle.sharing_tests.proofs.sockets.two_clients_by_sockets.Given as goal

-- the ties that were just made
abbrev pub ghosts-mount_and_serve : goal.ghosts-mount_and_serve
ghosts-mount_and_serve g a = record { names = names_of a.ties.lanes.items }
