-- Laws of messages.
use Rattle.std.specs.Prelude.{◌≡◌, ℕ, ⊤, List}
use Rattle.eden_fuse_format.specs.declared.message.Header.{Header}
use Rattle.eden_fuse_format.specs.declared.message.Message.{Message}
use Rattle.eden_fuse_format.specs.declared.message.Message.TheVariants.{Request, Unknown, Malformed, Unframed}
use Rattle.eden_fuse_format.specs.Asked.{Asked, seen}
use Rattle.eden_fuse_format.specs.Messages.{Requests, IsMessageOf}
use Rattle.eden_fuse_format.specs.Spelling.{IsSpelled, request_text}

-- what is spelled is read
abbrev pub SpelledIsRead : Type 0
SpelledIsRead = (h : Header) (a : Asked) → IsSpelled h a → Requests (request_text h a) h a

abbrev pub SameMessage : Message → Message → Type 0
SameMessage (Request h o) (Request i p) = (h ≡ i) × (seen o ≡ seen p)
SameMessage (Unknown u) (Unknown v) = u ≡ v
SameMessage (Malformed u) (Malformed v) = u ≡ v
SameMessage Unframed Unframed = ⊤
SameMessage m n = ⊥

-- bytes are one message
abbrev pub OneMessage : Type 0
OneMessage = (bytes : List ℕ) (m n : Message) → IsMessageOf bytes m → IsMessageOf bytes n → SameMessage m n
