-- Messages that were sent or received, each in one piece.
use Rattle.std.specs.Prelude.{◌≡◌, ◌⊎◌, ◌≤◌, ℕ, List, [], ◌∷◌, ◌++◌, length, take, Option, Some, None}
use Rattle.eden_fuse_session.specs.declared.receiver.Received.{Received}
use Rattle.eden_fuse_session.specs.declared.receiver.Received.TheVariants.{Message, Nothing, End, Failed}

-- the messages that were sent so far, or that are yet to be received, if they are known
abbrev pub Known : Type 0
Known = Option (List (List ℕ))

-- one message was sent
abbrev pub Sends : Known → Known → List ℕ → Type 0
Sends None new message = new ≡ None
Sends (Some old) new message = new ≡ Some (old ++ message ∷ [])

-- these messages were received, one after another
abbrev pub Gives : Known → Known → List (List ℕ) → Type 0
Gives None new messages = new ≡ None
Gives (Some old) new messages = (rest : List (List ℕ)) × (old ≡ messages ++ rest) × (new ≡ Some rest)

-- none is to come
abbrev pub IsAtEnd : Known → Type 0
IsAtEnd waiting = (waiting ≡ None) ⊎ (waiting ≡ Some [])

-- what came of waiting for a message, which then lies at the front of the room
abbrev pub Receives : Known → Known → Received → List ℕ → Type 0
Receives old new (Message n) room = (n ≤ length room) × Gives old new (take n room ∷ [])
Receives old new Nothing room = new ≡ old
Receives old new End room = (new ≡ old) × IsAtEnd old
Receives old new Failed room = new ≡ old
