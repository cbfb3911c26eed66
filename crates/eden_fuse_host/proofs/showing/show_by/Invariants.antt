use Rattle.std.proofs.Common.{[], ◌∷◌}
use Rattle.eden_fuse_host.specs.Turns.{beginning}
use Rattle.eden_fuse_host.proofs.showing.show_by.Given as goal

-- the folder begins here
abbrev pub ghosts-show : goal.ghosts-show
ghosts-show g a = record { begun = beginning a.pass a.manner ∷ [] }
