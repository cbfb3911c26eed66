-- What a rename meets.
use Rattle.std.specs.Prelude.{◌≡◌, ◌≢◌, ◌⊎◌, ◌&&◌, Bool, true, false, Option, Some, None, Result, Ok, Err}
use Rattle.eden_model.specs.declared.errno.Errno.TheVariants.{EINVAL, ENOTEMPTY}
use Rattle.eden_model.specs.declared.kind.Kind.TheVariants as kind
use Rattle.eden_model.specs.declared.request.Request.TheVariants as ask
use Rattle.eden_model.specs.declared.reply.Reply.{Reply}
use Rattle.eden_model.specs.declared.reply.Reply.TheVariants as say
use Rattle.eden_model.specs.declared.world.World.{Ghosts}
use Rattle.eden_model.specs.Histories.{fault_of}
use Rattle.eden_model.specs.Operations.{Meets, Says, Whether, Unless, Replaces, is_front, after}
use Rattle.eden_model.specs.Paths.{path_eq}
use Rattle.eden_model.specs.Trees.{Path, Tree, Passes, walk, reach}
use Rattle.eden_overlay.specs.declared.files.Files.{Ghosts as Files}
use Rattle.eden_tree.specs.Paths.{row_at}
use Rattle.eden_cache.specs.Cache.{Cache}
use Rattle.eden_inode.specs.declared.seen.Seen.{Seen}
use Rattle.eden_inode.specs.Tables.{Table, shows}
use Rattle.eden_ops.specs.declared.walk_end.Stop.{Stop}
use Rattle.eden_ops.specs.declared.walk_end.Stop.TheVariants as stop
use Rattle.eden_ops.specs.Attempts.{IsUnsaved, Wants}
use Rattle.eden_ops.specs.Faults.{IsCaused}
use Rattle.eden_ops.specs.Known.{known, place_on}

-- what was seen is a directory, or isn't
pub record IsTold (seen : Seen) (dir : Bool) : Type 0 where
  pub yes : dir ≡ true → (seen.loaded ≡ true) ⊎ (seen.kind ≡ kind.Dir)
  pub otherwise : dir ≡ false → (seen.loaded ≡ false) × (seen.kind ≢ kind.Dir)

-- what the table says if a directory, or else a file or a link, is to stand at a path
abbrev pub MayLand : Tree → Path → Bool → Reply → Type 0
MayLand G to dir = Meets (reach G to) (Says say.Ok) (Replaces G to dir)

-- .. and if it comes from another path
abbrev pub Goes : Tree → Path → Path → Bool → Reply → Type 0
Goes G from to dir =
    Whether (path_eq from to) (Says say.Ok)
    (Unless (dir && is_front from to) EINVAL
    (Unless (is_front to from) ENOTEMPTY
    (MayLand G to dir)))

-- a reply by the paths alone, whatever the tree, which it leaves
pub record IsPlainReply (from to : Path) (dir : Bool) (r : Reply) : Type 0 where
  pub says : (G : Tree) → Goes G from to dir r
  pub fine : fault_of r ≡ None
  pub leaves : (G : Tree) → after G (ask.Rename from to) r ≡ G

-- .. or none
abbrev pub IsByPaths : Path → Path → Bool → Option Reply → Type 0
IsByPaths from to dir (Some r) = IsPlainReply from to dir r
IsByPaths from to dir None = (path_eq from to ≡ false) × (((dir && is_front from to) ≡ false) × (is_front to from ≡ false))

module _ {W F : Type 0} (w : Ghosts W) (f : Files F W) where
  -- where the checks of the path to which it goes end, over what memory knows
  abbrev pub Lands : Path → Bool → Table F → Table F → Cache → Result (Unit {0}) Stop → Type 0
  Lands p dir s t d (Ok u) = walk (known t.root) p ≡ Passes
  Lands p dir s t d (Err (stop.Errs e)) = Unit {0}
  Lands p dir s t d (Err (stop.Needs k)) =
      ((r : Reply) → ¬ MayLand (known t.root) p dir r) × (Wants (row_at (place_on (known t.root) p) t.root) d k × IsUnsaved w f (place_on (known t.root) p) t)
  Lands p dir s t d (Err (stop.Faults e)) = ((r : Reply) → ¬ MayLand (known t.root) p dir r) × IsCaused w f (place_on (known t.root) p) s t e

  -- .. and what the table says there of what is shown
  abbrev pub LandsShown : Path → Bool → Table F → Result (Unit {0}) Stop → Type 0
  LandsShown p dir s (Ok u) = MayLand (shows w f s) p dir say.Ok
  LandsShown p dir s (Err (stop.Errs e)) = MayLand (shows w f s) p dir (say.Err e)
  LandsShown p dir s (Err (stop.Needs k)) = Unit {0}
  LandsShown p dir s (Err (stop.Faults e)) = Unit {0}
