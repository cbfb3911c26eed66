-- What a change of the table of a mount does to the tree that it shows.
use Rattle.std.specs.Prelude.{◌≡◌}
use Rattle.eden_model.specs.declared.world.World.{Ghosts}
use Rattle.eden_model.specs.Trees.{Path, Tree, graft}
use Rattle.eden_overlay.specs.declared.files.Files.{Ghosts as Files}
use Rattle.eden_inode.specs.Tables.{Table, shows}

module _ {W F : Type 0} (w : Ghosts W) (f : Files F W) where
  -- at and below a path t shows this tree, and elsewhere what s shows
  abbrev pub ShowsAt : Path → Tree → Table F → Table F → Type 0
  ShowsAt p g s t = shows w f t ≡ graft p g (shows w f s)
