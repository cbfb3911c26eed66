-- A session: one turn after another, until no more messages come.
use Rattle.std.specs.Prelude.{◌≡◌, ⊤, ℕ, List, [], ◌∷◌, Result, Ok, Err}
use Rattle.eden_fuse_format.specs.declared.message.Header.{Header}
use Rattle.eden_fuse_format.specs.Asked.{Asked}
use Rattle.eden_fuse_session.specs.declared.turning.Turned.{Turned}
use Rattle.eden_fuse_session.specs.declared.serving.SessionFault.{SessionFault}
use Rattle.eden_fuse_session.specs.declared.serving.SessionFault.TheVariants as fault
use Rattle.eden_fuse_session.specs.Sending.{Known, Gives, IsAtEnd}
use Rattle.eden_fuse_session.specs.Turns.{Told, Line, Turn}

-- a service, and the line to who asks it
abbrev pub Serving : Type 0 → Type 0
Serving S = S × Line

-- the room that each answer has at least, in bytes: 64 KiB, and 4 KiB for what stands before them
unfoldable pub answer_room : ℕ
answer_room = 69632

module _ {S : Type 0} (answers : S → Header → Asked → Told → S → Type 0) where
  -- each message in order had its turn, with that room for its answer
  abbrev pub Serves : List (List ℕ) → Serving S → Serving S → Type 0
  Serves [] s t = s ≡ t
  Serves (message ∷ messages) s t =
      (u : Serving S) × (r : Turned) × Turn answers message s.0 u.0 s.1 u.1 answer_room r × Serves messages u t

-- how it ended: with the last message; at one that couldn't be received; or before the first, for want of memory
abbrev pub EndsBy : Result ⊤ SessionFault → List (List ℕ) → Known → Type 0
EndsBy (Ok _) messages waiting = IsAtEnd waiting
EndsBy (Err fault.Receive) messages waiting = ⊤
EndsBy (Err fault.Memory) messages waiting = messages ≡ []

-- these messages were received, and each had its turn
pub record MessageSession {S : Type 0} (answers : S → Header → Asked → Told → S → Type 0) (old new : Serving S) (waiting left : Known)
    (r : Result ⊤ SessionFault) : Type 0 where
  pub messages : List (List ℕ)
  pub given : Gives waiting left messages
  pub served : Serves answers messages old new
  pub ended : EndsBy r messages left
