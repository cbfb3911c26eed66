-- What an attempt of any request leaves of a table.
use Rattle.std.specs.Prelude.{◌≡◌, ◌≢◌, ◌≤◌, ◌⊎◌, ◌+◌, ℕ, List, [], ◌∷◌}
use Rattle.eden_model.specs.declared.attempt.Attempt.{Attempt}
use Rattle.eden_model.specs.declared.attempt.Attempt.TheVariants.{Finished}
use Rattle.eden_model.specs.declared.errno.Errno.{Errno}
use Rattle.eden_model.specs.declared.fault.Fault.{Fault}
use Rattle.eden_model.specs.declared.request.Request.{Request}
use Rattle.eden_model.specs.declared.request.Request.TheVariants as ask
use Rattle.eden_model.specs.declared.reply.Reply.TheVariants as say
use Rattle.eden_model.specs.declared.world.World.{Ghosts}
use Rattle.eden_model.specs.Requests.{paths_of}
use Rattle.eden_model.specs.Trees.{Path}
use Rattle.eden_overlay.specs.declared.files.Files.{Ghosts as Files}
use Rattle.eden_tree.specs.Directory.{Row}
use Rattle.eden_coupling.specs.Chains.{IsLoadedAt, IsUnsavedAt}
use Rattle.eden_coupling.specs.Saving.{IsSavedAbove}
use Rattle.eden_inode.specs.Tables.{Table}
use Rattle.eden_ops.specs.Changes.{IsOutside, SameNames, LeavesOn}
use Rattle.eden_ops.specs.Keeping.{Keeps}
use Rattle.eden_ops.specs.Relocating.{GoesAlong, StandsIn}
use Rattle.eden_ops.specs.Stamps.{StampsTowards, IsWalked, AreWalked}

-- the paths on which a request that ends so lets loaded directories be: a rename not those below the entry that it moves, nor
-- those at and below the path to which that goes, nor, once it is Ok, the one that it moves
abbrev pub LetsBe : Request → Attempt → Path → Type 0
LetsBe (ask.Rmdir p) a q = IsOutside p q
LetsBe (ask.Rename from to) a q = IsOutside to q × (IsOutside from q ⊎ ((q ≡ from) × (a ≢ Finished say.Ok)))
LetsBe _ a q = Unit {0}

-- how many numbers a request gives at most, beside those of the entries that it loads
abbrev pub given : Request → ℕ
given (ask.Create p) = 1
given (ask.Mkdir p) = 1
given (ask.Symlink p target) = 1
given _ = 0

-- the answer is a fault
abbrev pub IsFault : Attempt → Type 0
IsFault a = (e : Fault) × (a ≡ Finished (say.Fault e))

-- the answer is no error
abbrev pub IsNoError : Attempt → Type 0
IsNoError a = (e : Errno) → a ≢ Finished (say.Err e)

-- the request may mark the directory at a path unsaved: a rename that ends in a fault, the one that its entry stands in
abbrev pub MayMark : Request → Attempt → Path → Type 0
MayMark (ask.Rename from to) a p = IsFault a × StandsIn from p
MayMark _ a p = ⊥

-- the loaded directory that a rename moves is so at the new path once it is Ok, with its entries and their numbers; or where it
-- was, also if both paths are one
abbrev pub StaysMoved : Request → Attempt → Row → Row → Type 0
StaysMoved q a x z = (from to : Path) → q ≡ ask.Rename from to → a ≡ Finished say.Ok → IsLoadedAt from x → IsLoadedAt from z ⊎ GoesAlong from to x z

-- the first of these paths was walked
abbrev pub IsFirstWalked : List Path → ℕ → Row → Type 0
IsFirstWalked [] clock x = Unit {0}
IsFirstWalked (p ∷ ps) clock x = IsWalked p clock x

-- What an attempt stamps, whatever it answers: directories that lead to its request's paths, and no others. Each loaded directory
-- on the first path has the clock then, unless an error refused the request; and on each path once it is done.
pub record StampsItsWalk (q : Request) (clock : ℕ) (x z : Row) (a : Attempt) : Type 0 where
  pub alone : StampsTowards (paths_of q) clock x z
  pub first : IsNoError a → IsFirstWalked (paths_of q) clock z
  pub done : a ≡ Finished say.Ok → AreWalked (paths_of q) clock z

-- no directory above one of the paths is unsaved
abbrev pub AreSavedAbove : List Path → Row → Type 0
AreSavedAbove [] x = Unit {0}
AreSavedAbove (p ∷ ps) x = IsSavedAbove p x × AreSavedAbove ps x

module _ {W F : Type 0} (w : Ghosts W) (f : Files F W) where
  -- Directories are loaded on the way, each entry of a tree object with the next number, and on these paths they stay so.
  -- Beside that at most this many numbers are given.
  pub record Gives (walks : List Path) (paths : Path → Type 0) (most : ℕ) (s t : Table F) : Type 0 where
    pub reached : Table F
    pub walked : Keeps w f walks s reached
    pub stays : (p : Path) → paths p → IsLoadedAt p reached.root → IsLoadedAt p t.root
    pub no_less : reached.next ≤ t.next
    pub no_more : t.next ≤ reached.next + most

  -- An error changes nothing, but that directories are loaded on the way. A fault changes no name and no kind in a directory
  -- that stays loaded. What is unsaved then was so before, unless the request may mark it.
  pub record LeavesAfter (q : Request) (s t : Table F) (a : Attempt) : Type 0 where
    pub on : LeavesOn f (LetsBe q a) s t
    pub gives : Gives (paths_of q) (LetsBe q a) (given q) s t
    pub moved : StaysMoved q a s.root t.root
    pub errs : (e : Errno) → a ≡ Finished (say.Err e) → Keeps w f (paths_of q) s t
    pub faults : (e : Fault) → a ≡ Finished (say.Fault e) → SameNames s.root t.root
    pub marked : (p : Path) → IsUnsavedAt p t.root → MayMark q a p ⊎ IsUnsavedAt p s.root
    -- If it is no fault, nothing changed, or no directory is unsaved above the request's paths: what changed stands in the files.
    pub stands : ¬ IsFault a → Keeps w f (paths_of q) s t ⊎ AreSavedAbove (paths_of q) t.root
