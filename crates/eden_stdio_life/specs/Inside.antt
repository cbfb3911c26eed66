-- What happens inside a mount's life: the states in which each fault that is reported has its cause.
use Rattle.std.specs.Prelude.{◌≡◌, ℕ, Bool, Option, Some, None, Result, Ok, Err, ⊤}
use Rattle.std.specs.List.{AllByRecursion}
use Rattle.eden_model.specs.declared.id.Id.{Id}
use Rattle.eden_model.specs.declared.world.World.{Ghosts}
use Rattle.eden_model.specs.Histories.{Legal, replay}
use Rattle.eden_model.specs.Numbers.{Numbers, replay_numbers}
use Rattle.eden_model.specs.Trees.{Tree}
use Rattle.eden_source.specs.Fetching.{Answer}
use Rattle.eden_overlay.specs.declared.files.Files.{Ghosts as Files}
use Rattle.eden_overlay.specs.declared.files.FilesFault.{FilesFault}
use Rattle.eden_mount.specs.Serving.{Desk, Stays}
use Rattle.eden_mount.specs.Settings.{Settings, room_for}
use Rattle.eden_checkout.specs.declared.fault.OpenFault.{OpenFault}
use Rattle.eden_checkout.specs.Attempted.{attempted}
use Rattle.eden_checkout.specs.Checkouts.{Checkout}
use Rattle.eden_wire.specs.declared.session_fault.SessionFault.{SessionFault}
use Rattle.eden_wire.specs.Serving.{Known, Session}
use Rattle.eden_stdio_life.specs.declared.fault.LifeFault.{LifeFault}
use Rattle.eden_stdio_life.specs.declared.fault.LifeFault.TheVariants as life
use Rattle.eden_stdio_life.specs.declared.life.Backing.{Backing}
use Rattle.eden_stdio_life.specs.declared.life.Ending.{Ending}
use Rattle.eden_stdio_life.specs.declared.opening.Base.{Base}
use Rattle.eden_stdio_life.specs.Calls.{CallAnswers, MayBeTold}
use Rattle.eden_stdio_life.specs.Lives.{first_life_fault}
use Rattle.eden_stdio_life.specs.Opening.{Closes, IsOpened, IsNotOpened}
use Rattle.eden_stdio_life.specs.Serving.{Begins}

module _ {W F : Type 0} (w : Ghosts W) (f : Files F W) where
  -- a served caller's checkout was closed, and the first fault reported
  pub record Ends {S : Type 0} (root : Id) (t : Checkout F) (tree : Tree) (N : Numbers) (source : S) (said : Result ⊤ SessionFault)
      (left : Ending F S) : Type 0 where
    pub files : Closes w f root t tree N left.unclosed left.backing.files
    pub source_left : left.backing.source ≡ source
    pub told : left.outcome ≡ first_life_fault said left.unclosed

  -- the history copies replies or doesn't, and may become this long
  module _ {S : Type 0} (fetched : S → Id → Answer → S → Type 0) (copies : Bool) (limit : ℕ) where
    -- The overlay wasn't opened, for that fault: nothing was read or written, and the source wasn't asked.
    pub record IsUnservedInside (base : Base) (backing : Backing F S) (input output : Known × Known) (why : OpenFault) (left : Ending F S) : Type 0 where
      pub files : IsNotOpened w f base backing.files why left.backing.files
      pub source : left.backing.source ≡ backing.source
      pub unread : input.1 ≡ input.0
      pub unwritten : output.1 ≡ output.0
      pub unclosed : left.unclosed ≡ None

    -- The overlay was opened, the caller served, and the overlay closed, however the session ended. A request wasn't taken
    -- for the history's limit or for want of memory alone, and the files are the same commit's. If the outside is honest,
    -- the history is one of the opening tree with its numbers, what the files show is the tree after it, and if they were
    -- closed they back the numbers that it gave.
    pub record IsLivedInside (base : Base) (settings : Settings) (backing : Backing F S) (input output : Known × Known) (left : Ending F S) : Type 0 where
      pub begun : Desk (Checkout F) S
      pub begins : Begins (room_for settings) limit begun.core.table backing.source begun
      pub opened : IsOpened w f base settings backing.files begun.core.table
      pub ended : Desk (Checkout F) S
      pub said : Result ⊤ SessionFault
      pub session : Session (CallAnswers fetched (attempted w f) w.honest copies) (begun, ended) input output said
      pub told : AllByRecursion (MayBeTold limit) session.given
      pub stays : Stays (attempted w f) begun.core ended.core
      pub legal : w.honest → Legal w.opening w.numbers ended.core.history
      pub ends : Ends base.root ended.core.table (replay w.opening ended.core.history) (replay_numbers w.numbers ended.core.history)
          ended.source said left

    abbrev pub LivesInsideBy : Result ⊤ LifeFault → Base → Settings → Backing F S → Known × Known → Known × Known → Ending F S → Type 0
    LivesInsideBy (Err (life.Open why)) base settings backing input output left = IsUnservedInside base backing input output why left
    LivesInsideBy outcome base settings backing input output left = IsLivedInside base settings backing input output left

    -- a whole life, by what its mount went through
    abbrev pub LivesInside : Base → Settings → Backing F S → Known × Known → Known × Known → Ending F S → Type 0
    LivesInside base settings backing input output left = LivesInsideBy left.outcome base settings backing input output left
