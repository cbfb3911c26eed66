-- One turn: a message of the kernel, and what it was answered.
use Rattle.std.specs.Prelude.{◌≡◌, ⊤, ℕ, ◌+◌, ◌<◌, ◌^◌, List, [], ◌++◌, length, Option, Some, None}
use Rattle.eden_fuse_format.specs.declared.answer.Answer.TheVariants as answer
use Rattle.eden_fuse_format.specs.declared.message.Header.{Header}
use Rattle.eden_fuse_format.specs.declared.message.Message.{Message}
use Rattle.eden_fuse_format.specs.declared.message.Message.TheVariants.{Request, Unknown, Malformed, Unframed}
use Rattle.eden_fuse_format.specs.Asked.{Asked, seen}
use Rattle.eden_fuse_format.specs.Answers.{body_text, error_of, out_header, IsBrief}
use Rattle.eden_fuse_format.specs.Messages.{IsMessageOf}
use Rattle.eden_fuse_session.specs.declared.service.Said.{Said}
use Rattle.eden_fuse_session.specs.declared.service.Said.TheVariants.{Nothing, Answers, Data}
use Rattle.eden_fuse_session.specs.declared.turning.Turned.{Turned}
use Rattle.eden_fuse_session.specs.declared.turning.Turned.TheVariants as turned
use Rattle.eden_fuse_session.specs.Sending.{Known, Sends}

-- an answer: the number of an error, and a body; none if none is wanted
abbrev pub Told : Type 0
Told = Option (ℕ × List ℕ)

-- what a service said, whose bytes lie in this room
abbrev pub told : Said → List ℕ → Told
told Nothing bytes = None
told (Answers a) bytes = Some (error_of a, body_text a)
told Data bytes = Some (0, bytes)

-- its length can be told
abbrev pub IsBriefly : Said → List ℕ → Type 0
IsBriefly Nothing bytes = ⊤
IsBriefly (Answers a) bytes = IsBrief a
IsBriefly Data bytes = length bytes < 2 ^ 31

-- the text of an answer to the request of that number
abbrev pub text_of : ℕ → ℕ × List ℕ → List ℕ
text_of unique t = out_header (length t.1) t.0 unique ++ t.1

-- what a sender took, and how often it failed
abbrev pub Line : Type 0
Line = Known × ℕ

-- what is told if there is no memory for an answer: ENOMEM, which is 12; its text has 16 bytes
abbrev pub no_memory : ℕ × List ℕ
no_memory = (error_of (answer.Refused 12), [])

-- that was sent in one piece, or why nothing was: the sender failed, or the room is too small even for it
abbrev pub SendsNoMemory : ℕ → Line → Line → ℕ → Turned → Type 0
SendsNoMemory unique old new room turned.NoMemory = Sends old.0 new.0 (text_of unique no_memory) × (new.1 ≡ old.1)
SendsNoMemory unique old new room turned.NotSent = (new.0 ≡ old.0) × (new.1 ≡ old.1 + 1)
SendsNoMemory unique old new room turned.NoRoom = (new.0 ≡ old.0) × (new.1 ≡ old.1) × (room < 16)
SendsNoMemory unique old new room r = ⊥

-- an answer was sent in one piece, or the sender failed, or it was refused, since the room that there was is too small for it
abbrev pub SendsAnswer : ℕ → Told → Line → Line → ℕ → Turned → Type 0
SendsAnswer unique None old new room turned.Silent = (new.0 ≡ old.0) × (new.1 ≡ old.1)
SendsAnswer unique None old new room r = ⊥
SendsAnswer unique (Some t) old new room turned.Answered = Sends old.0 new.0 (text_of unique t) × (new.1 ≡ old.1)
SendsAnswer unique (Some t) old new room turned.NotSent = (new.0 ≡ old.0) × (new.1 ≡ old.1 + 1)
SendsAnswer unique (Some t) old new room turned.Unframed = ⊥
SendsAnswer unique (Some t) old new room turned.Silent = ⊥
SendsAnswer unique (Some t) old new room r = SendsNoMemory unique old new room r × (room < length (text_of unique t))

module _ {S : Type 0} (answers : S → Header → Asked → Told → S → Type 0) where
  -- what was done for what a message is; ENOSYS is 38, EINVAL 22
  abbrev pub Does : Message → S → S → Line → Line → ℕ → Turned → Type 0
  Does (Request header operation) s t old new room r = (told : Told) × answers s header (seen operation) told t × SendsAnswer header.unique told old new room r
  Does (Unknown unique) s t old new room r = (t ≡ s) × SendsAnswer unique (told (Answers (answer.Refused 38)) []) old new room r
  Does (Malformed unique) s t old new room r = (t ≡ s) × SendsAnswer unique (told (Answers (answer.Refused 22)) []) old new room r
  Does Unframed s t old new room r = (t ≡ s) × (new.0 ≡ old.0) × (new.1 ≡ old.1) × (r ≡ turned.Unframed)

  -- what was done for a message
  abbrev pub Turn : List ℕ → S → S → Line → Line → ℕ → Turned → Type 0
  Turn message s t old new room r = (m : Message) × IsMessageOf message m × Does m s t old new room r
