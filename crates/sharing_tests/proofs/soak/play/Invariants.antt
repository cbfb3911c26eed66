use Rattle.eden_shared.specs.Lanes.{names_of}
use Rattle.sharing_tests.proofs.soak.play.Given as goal

-- the ties that were just made
abbrev pub ghosts-serve_round : goal.ghosts-serve_round
ghosts-serve_round g a = record { names = names_of a.ties.lanes.items }
