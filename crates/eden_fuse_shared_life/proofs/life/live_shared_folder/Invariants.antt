use Rattle.eden_shared.specs.Lanes.{names_of}
use Rattle.eden_fuse_shared_life.proofs.life.live_shared_folder.Given as goal

-- the ties that were just made
abbrev pub ghosts-live_tied : goal.ghosts-live_tied
ghosts-live_tied g a = record { names = names_of a.ties.lanes.items }
