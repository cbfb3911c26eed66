-- The steps of a session: one line, the lines of a piece, the end.
use Rattle.std.specs.Prelude.{ℕ, ◌≡◌, ◌≢◌, List, [], ◌∷◌, ◌++◌, length, ◌≤◌, Bool, true, false, Option, Result, Ok, Err, MatchResult, OnOk, ⊤, ◌⊎◌}
use Rattle.std.specs.Io.KnownBytes.{Appends, Keeps}
use Rattle.eden_model.specs.declared.errno.Errno.TheVariants.{EPROTO}
use Rattle.eden_model.specs.declared.reply.Reply.{Reply}
use Rattle.eden_model.specs.declared.fault.CallFault.{CallFault}
use Rattle.eden_wire.specs.Replies.{error_text}
use Rattle.eden_wire.specs.Lines.{longest_line, Lines, IsOneLine, IsLine, Ends}
use Rattle.eden_wire.specs.Writing.{WritesFront, WritesText, HandsOver, IsIdle}
use Rattle.eden_wire.specs.Serving.{Answering, Known, texts, Serves}
use Rattle.eden_wire.specs.declared.request.Item.{Item}
use Rattle.eden_wire.specs.declared.request.Item.TheVariants.{Bad}
use Rattle.eden_wire.specs.declared.output.Output.{Output}
use Rattle.eden_wire.specs.declared.output.WriteFailed.{WriteFailed}
use Rattle.eden_wire.specs.declared.session_fault.SessionFault.{SessionFault}
use Rattle.eden_wire.specs.declared.session_fault.SessionFault.TheVariants as fault

-- whether the session goes on after the item
abbrev pub Goes : Bool → Item → Type 0
Goes true item = item ≢ Bad
Goes false item = item ≡ Bad

-- one line was answered
pub record Turn {S : Type 0} (answers : Answering S) (s t : S) (w v : Known) (o p : Output) (line : List ℕ) (on : Bool) : Type 0 where
  pub item : Item
  pub given : List (Option (Result Reply CallFault))
  pub is_line : IsLine line item
  pub goes : Goes on item
  pub served : Serves answers s (item ∷ []) given t
  pub grew : HandsOver w v o p (texts (item ∷ []) given)

-- the bytes begin with a line that ends the session, whatever is unread
abbrev pub IsBadEnd : List ℕ → Type 0
IsBadEnd rest = (unread : Known) → Ends unread rest (Bad ∷ [])

-- what is left of the bytes after the lines that were answered: all whole lines were, if no write has failed
abbrev pub RunLeft : Bool → Output → List Item → List ℕ → List ℕ → Type 0
RunLeft true output last rest after = (last ≡ []) × (rest ≡ after) × (output.failed ≡ false → IsOneLine rest × (length rest ≤ longest_line))
RunLeft false output last rest after = (last ≡ Bad ∷ []) × IsBadEnd rest

-- lines among the bytes were answered, up to one that is bad or a failed write
pub record Run {S : Type 0} (answers : Answering S) (s t : S) (w v : Known) (o p : Output) (bytes after : List ℕ) (on : Bool) : Type 0 where
  pub items : List Item
  pub last : List Item
  pub given : List (Option (Result Reply CallFault))
  pub rest : List ℕ
  pub lines : Lines bytes items rest
  pub left : RunLeft on p last rest after
  pub served : Serves answers s (items ++ last) given t
  pub grew : HandsOver w v o p (texts (items ++ last) given)

-- what is left after their answers were written out
abbrev pub Left : Result Bool WriteFailed → List Item → List ℕ → List ℕ → Type 0
Left (Ok true) last rest after = (last ≡ []) × (rest ≡ after) × IsOneLine rest × (length rest ≤ longest_line)
Left (Ok false) last rest after = (last ≡ Bad ∷ []) × IsBadEnd rest
Left (Err e) last rest after = (last ≡ []) ⊎ ((last ≡ Bad ∷ []) × IsBadEnd rest)

-- the whole lines among the bytes were answered, up to one that is bad, and the answers written out
pub record Answered {S : Type 0} (answers : Answering S) (s t : S) (old new : Known) (output : Output) (bytes after : List ℕ)
    (r : Result Bool WriteFailed) : Type 0 where
  pub items : List Item
  pub last : List Item
  pub given : List (Option (Result Reply CallFault))
  pub rest : List ℕ
  pub lines : Lines bytes items rest
  pub left : Left r last rest after
  pub served : Serves answers s (items ++ last) given t
  pub wrote : WritesText old new r (texts (items ++ last) given)
  pub idle : OnOk r (IsIdle output)

-- what is said at the end of the input
abbrev pub Ended : List ℕ → Known → Known → Result ⊤ SessionFault → Type 0
Ended [] old new r = (r ≡ Ok tt) × Keeps old new
Ended (b ∷ rest) old new r = MatchResult r (λ _. Appends old new (error_text EPROTO)) (λ e. (e ≡ fault.Write) × WritesFront old new (error_text EPROTO))
