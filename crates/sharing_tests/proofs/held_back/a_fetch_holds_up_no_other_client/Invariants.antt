use Rattle.eden_shared.specs.Lanes.{names_of}
use Rattle.sharing_tests.proofs.held_back.a_fetch_holds_up_no_other_client.Given as goal

-- the ties that were just made
abbrev pub ghosts-race : goal.ghosts-race
ghosts-race g a = record { names = names_of a.ties.lanes.items }
