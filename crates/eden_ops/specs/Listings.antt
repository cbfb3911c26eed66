-- The entries of a loaded directory, and their pages.
use Rattle.std.specs.Option.{IsSome}
use Rattle.std.specs.Prelude.{◌≡◌, ◌++◌, ◌∷◌, [], ℕ, List, map, Option, None, true}
use Rattle.eden_model.specs.declared.kind.Kind.{Kind}
use Rattle.eden_model.specs.declared.node.Node.TheVariants.{Dir}
use Rattle.eden_model.specs.declared.reply.Reply.{Reply}
use Rattle.eden_model.specs.declared.world.World.{Ghosts}
use Rattle.eden_model.specs.Operations.{IsListing, page_of}
use Rattle.eden_model.specs.Trees.{Name, Path, Tree, node_at, Here, reach}
use Rattle.eden_overlay.specs.declared.files.Files.{Ghosts as Files}
use Rattle.eden_tree.specs.Directory.{Row, Directory}
use Rattle.eden_inode.specs.Tables.{Table, shows}

abbrev pub kind_in : Name × Row → Name × Kind
kind_in e = (e.0, e.1.kind)

-- the names of a loaded directory's entries, each with its kind
abbrev pub kinds_in : Directory → List (Name × Kind)
kinds_in d = map kind_in d.rows

-- nothing is below the path
abbrev pub HasNoEntries : Tree → Path → Type 0
HasNoEntries G p = (n : Name) (rest : Path) → node_at G (p ++ n ∷ rest) ≡ None

-- an entry is in the directory at the path
abbrev pub HasEntries : Tree → Path → Type 0
HasEntries G p = (n : Name) × IsSome (node_at G (p ++ n ∷ []))

module _ {W F : Type 0} (w : Ghosts W) (f : Files F W) where
  -- a page of the directory that is shown at the path, if the outside is honest
  pub record IsPage (p : Path) (t : Table F) (after : Option Name) (limit : ℕ) (r : Reply) : Type 0 where
    pub all : List (Name × Kind)
    pub is : r ≡ page_of after limit all
    pub listing : w.honest → IsListing (shows w f t) p all
    pub here : w.honest → reach (shows w f t) p ≡ Here (Dir true)
