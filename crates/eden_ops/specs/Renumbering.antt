-- What an attempt does to the inode numbers that a mount shows.
use Rattle.std.specs.Prelude.{◌≡◌, ◌≤◌, ℕ, Some}
use Rattle.eden_model.specs.declared.attempt.Attempt.{Attempt}
use Rattle.eden_model.specs.declared.attempt.Attempt.TheVariants.{Finished, Need}
use Rattle.eden_model.specs.declared.kind.Kind.{Kind}
use Rattle.eden_model.specs.declared.request.Request.{Request}
use Rattle.eden_model.specs.declared.request.Request.TheVariants as ask
use Rattle.eden_model.specs.declared.reply.Reply.TheVariants as say
use Rattle.eden_model.specs.declared.world.World.{Ghosts}
use Rattle.eden_model.specs.Backing.{AreShown, Gains, Renumbers}
use Rattle.eden_model.specs.Limits.{number_end}
use Rattle.eden_model.specs.Numbers.{Numbering, renumbered}
use Rattle.eden_model.specs.Requests.{paths_of}
use Rattle.eden_model.specs.Trees.{Path}
use Rattle.eden_overlay.specs.declared.files.Files.{Ghosts as Files}
use Rattle.eden_inode.specs.Tables.{Table, shows_numbers}
use Rattle.eden_ops.specs.Keeping.{Keeps}

-- the numbers after an attempt: a wait leaves them
abbrev pub edited_by : Request → Attempt → Numbering → Numbering
edited_by q (Finished r) M = renumbered q r M
edited_by q (Need k) M = M

-- a `stat` that is answered returns the number that is shown at its path
abbrev pub TellsItsNumber : Request → Attempt → Numbering → Type 0
TellsItsNumber q a T = (p : Path) (k : Kind) (size n : ℕ) → q ≡ ask.Stat p → a ≡ Finished (say.Stat k size n) → T p ≡ Some n

module _ {W F : Type 0} (w : Ghosts W) (f : Files F W) where
  -- Directories are loaded on the way. Then the numbers that are shown change as the attempt's request changes them, and more
  -- may be gained.
  pub record EditsNumbers (q : Request) (s t : Table F) (a : Attempt) : Type 0 where
    pub reached : Table F
    pub walked : Keeps w f (paths_of q) s reached
    pub rises : reached.next ≤ t.next
    pub edits : w.honest → AreShown (shows_numbers f reached) reached.next → t.next ≤ number_end
        → Gains (edited_by q a (shows_numbers f reached)) reached.next (shows_numbers f t) t.next

  -- What is shown of numbers is gained, changed as the request changes them if it is done, and gained; a `stat` returns the one
  -- that is shown then. A wait gains some alone.
  abbrev pub Renumbered : Request → Table F → Table F → Attempt → Type 0
  Renumbered q s t (Finished r) = Renumbers (shows_numbers f s) s.next q r (shows_numbers f t) t.next
  Renumbered q s t (Need k) = Gains (shows_numbers f s) s.next (shows_numbers f t) t.next
