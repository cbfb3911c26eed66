use Rattle.eden_shared.specs.Lanes.{names_of}
use Rattle.test_growths.proofs.sharing.share_once.Given as goal

-- the ties that were just made
abbrev pub ghosts-share : goal.ghosts-share
ghosts-share g a = record { names = names_of a.ties.lanes.items }
