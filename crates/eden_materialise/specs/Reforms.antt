-- Another form of an entry that is there.
use Rattle.std.specs.Prelude.{◌≢◌, ◌∷◌, [], ◌++◌, false, Some}
use Rattle.eden_model.specs.declared.kind.Kind.{Kind}
use Rattle.eden_model.specs.declared.kind.Kind.TheVariants as kind
use Rattle.eden_model.specs.declared.world.World.{Ghosts}
use Rattle.eden_model.specs.Repository.{Repository}
use Rattle.eden_model.specs.Shown.{node_from}
use Rattle.eden_model.specs.Trees.{Name, Path}
use Rattle.eden_overlay.specs.declared.files.Files.{Ghosts as Files}
use Rattle.eden_overlay.specs.Files.{Stored}
use Rattle.eden_tree.specs.Directory.{Row}
use Rattle.eden_coupling.specs.Filing.{leaf, content_shown, HasFile}
use Rattle.eden_inode.specs.Tables.{Table}
use Rattle.eden_materialise.specs.Listings.{IsHeldFor, PutsEntry}
use Rattle.eden_materialise.specs.Showing.{ShowsAt}

-- the entry, of another kind
abbrev pub of_kind : Kind → Row → Row
of_kind k w = record w { kind = k }

-- it may stand there so in a table that is held
pub record IsHeldFile (honest : Type 0) (R : Repository) (F : Stored) (x : Row) (p : Path) (n : Name) (k : Kind) : Type 0 where
  pub entry : Row
  pub has : HasFile x p n entry
  pub other : k ≢ kind.Dir
  pub held : IsHeldFor honest R F x p n (Some (of_kind k entry))

-- ---- in a table: of the file under that name at a path

-- x became z in memory: the file is of that kind
abbrev pub PutsKind : Path → Name → Kind → Row → Row → Type 0
PutsKind p n k x z = (w : Row) → HasFile x p n w → PutsEntry p n (Some (of_kind k w)) x z

-- it is shown so, with the content that it had, and elsewhere the same
abbrev pub ShowsKind : {W F : Type 0} → Ghosts W → Files F W → Path → Name → Kind → Table F → Table F → Type 0
ShowsKind world f p n k s t = (w : Row) → HasFile s.root p n w
    → ShowsAt world f (p ++ n ∷ []) (leaf (node_from k (content_shown world.repository (f.stored s.files) w) false)) s t
