-- Requests that ask for what is so already.
use Rattle.std.specs.Prelude.{◌≡◌, ◌⊎◌, ℕ, List, Option, Some}
use Rattle.eden_model.specs.declared.node.Node.TheVariants.{File}
use Rattle.eden_model.specs.declared.request.Request.{Request}
use Rattle.eden_model.specs.declared.request.Request.TheVariants as ask
use Rattle.eden_model.specs.declared.world.World.{Ghosts}
use Rattle.eden_model.specs.Trees.{Tree}
use Rattle.eden_overlay.specs.declared.files.Files.{Ghosts as Files}
use Rattle.eden_inode.specs.Tables.{Table, shows}
use Rattle.eden_ops.specs.Known.{known}

-- the file at the path can be executed already, or can't already
abbrev pub IsSo : Request → Tree → Type 0
IsSo (ask.SetExec p exec) G = (content : Option (List ℕ)) × (G p ≡ Some (File exec content))
IsSo _ G = ⊥

module _ {W F : Type 0} (w : Ghosts W) (f : Files F W) where
  -- .. as memory knows it, or as an honest outside shows it
  abbrev pub IsSoAlready : Request → Table F → Type 0
  IsSoAlready q s = IsSo q (known s.root) ⊎ (w.honest × IsSo q (shows w f s))
