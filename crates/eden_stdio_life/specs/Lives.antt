-- A mount's life as it is seen from outside: its lines and its answers, and what its overlay holds before and after.
use Rattle.std.specs.Prelude.{◌≡◌, ℕ, List, [], Option, Some, None, Result, Ok, Err, ⊤}
use Rattle.eden_model.specs.declared.entry.Entry.{Entry}
use Rattle.eden_model.specs.declared.id.Id.{Id}
use Rattle.eden_model.specs.declared.world.World.{Ghosts}
use Rattle.eden_model.specs.Histories.{Legal, replay}
use Rattle.eden_model.specs.Numbers.{replay_numbers}
use Rattle.eden_source.specs.Fetching.{Answer}
use Rattle.eden_overlay.specs.declared.files.Files.{Ghosts as Files}
use Rattle.eden_overlay.specs.declared.files.FilesFault.{FilesFault}
use Rattle.eden_wire.specs.declared.session_fault.SessionFault.{SessionFault}
use Rattle.eden_wire.specs.Serving.{Known, Session}
use Rattle.eden_stdio_life.specs.declared.fault.LifeFault.{LifeFault}
use Rattle.eden_stdio_life.specs.declared.fault.LifeFault.TheVariants as life
use Rattle.eden_stdio_life.specs.declared.life.Backing.{Backing}
use Rattle.eden_stdio_life.specs.declared.life.Ending.{Ending}
use Rattle.eden_stdio_life.specs.Left.{HoldsTheSame, LeavesFiles}
use Rattle.eden_stdio_life.specs.Ledgers.{LedgerAnswers, ledger}

-- the session's fault is reported before that of the close
abbrev pub first_life_fault : Result ⊤ SessionFault → Option FilesFault → Result ⊤ LifeFault
first_life_fault (Err fault) unclosed = Err (life.Session fault)
first_life_fault (Ok _) (Some fault) = Err (life.Close fault)
first_life_fault (Ok _) None = Ok tt

-- the history may become this long
module _ {W F S : Type 0} (w : Ghosts W) (f : Files F W) (fetched : S → Id → Answer → S → Type 0) (limit : ℕ) where
  -- The overlay wasn't opened, and stays as it was: nothing was read or written, and the source wasn't asked.
  pub record IsUnserved (backing : Backing F S) (input output : Known × Known) (left : Ending F S) : Type 0 where
    pub files : HoldsTheSame w f backing.files left.backing.files
    pub source : left.backing.source ≡ backing.source
    pub unread : input.1 ≡ input.0
    pub unwritten : output.1 ≡ output.0
    pub unclosed : left.unclosed ≡ None

  -- The overlay was opened over that commit's tree, the caller's session served, and the overlay closed, however the session
  -- ended. If the outside is honest, what was answered is a history of the opening tree with its numbers, and an overlay that
  -- was closed shows the tree after it, and backs the numbers that it gave.
  pub record IsLived (root : Id) (backing : Backing F S) (input output : Known × Known) (left : Ending F S) : Type 0 where
    pub history : List Entry
    pub said : Result ⊤ SessionFault
    pub session : Session (LedgerAnswers fetched limit) (ledger [] backing.source, ledger history left.backing.source) input output said
    pub legal : w.honest → Legal w.opening w.numbers history
    pub served : F
    pub ended : LeavesFiles w f root (replay w.opening history) (replay_numbers w.numbers history) served left.unclosed left.backing.files
    pub told : left.outcome ≡ first_life_fault said left.unclosed

  abbrev pub LivesBy : Result ⊤ LifeFault → Id → Backing F S → Known × Known → Known × Known → Ending F S → Type 0
  LivesBy (Err (life.Open why)) root backing input output left = IsUnserved backing input output left
  LivesBy outcome root backing input output left = IsLived root backing input output left

  -- a whole life, with the input, the output, and what the mount stands on before and after it
  abbrev pub Lives : Id → Backing F S → Known × Known → Known × Known → Ending F S → Type 0
  Lives root backing input output left = LivesBy left.outcome root backing input output left
