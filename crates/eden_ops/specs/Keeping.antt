-- What an attempt leaves of a table that changes nothing: directories on the way are stamped and loaded.
use Rattle.std.specs.Prelude.{◌≡◌, ◌≤◌, ◌⊎◌, true, List, [], ◌∷◌, Some, None}
use Rattle.eden_model.specs.declared.id.Id.{Id}
use Rattle.eden_model.specs.declared.kind.Origin.TheVariants as origin
use Rattle.eden_model.specs.declared.tree_entry.TreeEntry.{TreeEntry}
use Rattle.eden_model.specs.declared.world.World.{Ghosts}
use Rattle.eden_model.specs.Operations.{is_front}
use Rattle.eden_model.specs.Repository.{no_files}
use Rattle.eden_model.specs.Trees.{Path}
use Rattle.eden_overlay.specs.declared.files.Files.{Ghosts as Files}
use Rattle.eden_overlay.specs.Held.{saved_at}
use Rattle.eden_tree.specs.Paths.{stamped_along}
use Rattle.eden_coupling.specs.Listings.{listing_of}
use Rattle.eden_coupling.specs.Loading.{IsAt, LoadsObject, LoadsOwn}
use Rattle.eden_coupling.specs.Shown.{IsFrom}
use Rattle.eden_inode.specs.Tables.{Table}

-- the path is one of these, or a front of one
abbrev pub LeadsTo : List Path → Path → Type 0
LeadsTo [] p = ⊥
LeadsTo (q ∷ qs) p = (is_front p q ≡ true) ⊎ LeadsTo qs p

module _ {W F : Type 0} (w : Ghosts W) (f : Files F W) where
  -- the directory at a path is loaded, and the entries of a tree object have the next numbers
  pub data Loads (p : Path) (t u : Table F) : Type 0 where
    from_object : (id : Id) (es : List TreeEntry) → (at : IsAt p t.root (origin.Object id)) → (w.honest → w.repository.tree id ≡ Some es)
        → (w.honest → saved_at (f.stored t.files) at.row.number id ≡ None) → LoadsObject t.clock t.next t.root p es u.root u.next → Loads p t u
    without : IsAt p t.root origin.Own ⊎ IsAt p t.root origin.Empty → LoadsOwn w.honest t.clock (f.stored t.files) t.root p u.root → u.next ≡ t.next
        → Loads p t u
    -- or on a tree object, with the numbers that are saved for it, which list the object
    resumed : (id : Id) → (at : IsAt p t.root (origin.Object id)) → (l : LoadsOwn w.honest t.clock (f.stored t.files) t.root p u.root)
        → (w.honest → saved_at (f.stored t.files) at.row.number id ≡ Some (listing_of l.directory))
        → (w.honest → IsFrom w.repository no_files at.row l.directory) → u.next ≡ t.next → Loads p t u

  -- beside the entries and the next number: the device may have failed
  pub record Beside (t u : Table F) : Type 0 where
    pub stored : w.honest → f.stored u.files ≡ f.stored t.files
    pub failures : f.failures t.files ≤ f.failures u.files
    pub clock : u.clock ≡ t.clock
    pub changes : u.changes ≡ t.changes

  -- directories are stamped and loaded that lead to these paths, and no others
  pub data Step (paths : List Path) (t : Table F) : Table F → Type 0 where
    stamps : (p : Path) → LeadsTo paths p → Step paths t (record t { root = stamped_along p t.clock t.root })
    loads : (u : Table F) (p : Path) → LeadsTo paths p → Loads p t u → Beside t u → Step paths t u
    rests : (u : Table F) → u.root ≡ t.root → u.next ≡ t.next → Beside t u → Step paths t u

  -- any number of such steps
  pub data Keeps (paths : List Path) (s : Table F) : Table F → Type 0 where
    same : Keeps paths s s
    on : (t u : Table F) → Keeps paths s t → Step paths t u → Keeps paths s u
