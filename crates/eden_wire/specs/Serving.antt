-- What a session says: the texts of the answers to the lines that it read.
use Rattle.std.specs.Prelude.{ℕ, ◌≡◌, List, [], ◌∷◌, ◌++◌, take, Option, Some, None, Result, Ok, Err, ⊤, ◌⊎◌}
use Rattle.std.specs.Borrow.{Bor}
use Rattle.std.specs.Io.KnownBytes.{Appends, Consumes, Keeps}
use Rattle.eden_model.specs.declared.errno.Errno.TheVariants.{EPROTO}
use Rattle.eden_model.specs.declared.request.Request.{Request}
use Rattle.eden_model.specs.declared.reply.Reply.{Reply}
use Rattle.eden_model.specs.declared.fault.CallFault.{CallFault}
use Rattle.eden_wire.specs.Replies.{answer_text, error_text}
use Rattle.eden_wire.specs.Lines.{Lines, Ends, IsOneLine}
use Rattle.eden_wire.specs.declared.request.Item.{Item}
use Rattle.eden_wire.specs.declared.request.Item.TheVariants.{Asks, Refuses, Bad}
use Rattle.eden_wire.specs.declared.session_fault.SessionFault.{SessionFault}
use Rattle.eden_wire.specs.declared.session_fault.SessionFault.TheVariants as fault

-- what a call answered, without where the reply lies
abbrev pub answered : Result (Bor Reply) CallFault → Result Reply CallFault
answered (Ok r) = Ok r.now
answered (Err e) = Err e

-- an answer for each request, and the fixed text for each refusal
abbrev pub texts : List Item → List (Option (Result Reply CallFault)) → List ℕ
texts (Asks q ∷ items) (a ∷ given) = answer_text a ++ texts items given
texts (Refuses e ∷ items) given = error_text e ++ texts items given
texts (Bad ∷ items) given = error_text EPROTO ++ texts items given
texts items given = []

-- what a service may answer: its state before, the request, the answer, its state after
abbrev pub Answering : Type 0 → Type 1
Answering S = S → Request → Result Reply CallFault → S → Type 0

-- the bytes that a reader still has to give, or that a writer has taken, where they are known
abbrev pub Known : Type 0
Known = Option (List ℕ)

module _ {S : Type 0} (answers : Answering S) where
  -- each request in order was answered by the service, or for want of memory not asked
  abbrev pub Serves : S → List Item → List (Option (Result Reply CallFault)) → S → Type 0
  Serves s [] [] t = s ≡ t
  Serves s (Asks q ∷ items) (None ∷ given) t = Serves s items given t
  Serves s (Asks q ∷ items) (Some a ∷ given) t = (u : S) × answers s q a u × Serves u items given t
  Serves s (Refuses e ∷ items) given t = Serves s items given t
  Serves s (Bad ∷ items) given t = Serves s items given t
  Serves s items given t = ⊥

-- how a session ended: with the input or a bad line; at a failed read; at a failed write, with a beginning of the texts; with no memory to begin
abbrev pub Said : Result ⊤ SessionFault → List ℕ → List Item → List ℕ → Known → Known × Known → List ℕ → Type 0
Said (Ok _) read last rest unread output text = Ends unread rest last × Appends output.0 output.1 text
Said (Err fault.Read) read last rest unread output text = (last ≡ []) × IsOneLine rest × Appends output.0 output.1 text
Said (Err fault.Write) read last rest unread output text = ((last ≡ []) ⊎ Ends unread rest last) × (n : ℕ) × Appends output.0 output.1 (take n text)
Said (Err fault.Memory) read last rest unread output text = (read ≡ []) × (last ≡ []) × Keeps output.0 output.1

-- with the service, the input and the output before and after: what was read are lines, which were served, and the answers' texts were written
pub record Session {S : Type 0} (answers : Answering S) (service : S × S) (input output : Known × Known) (r : Result ⊤ SessionFault) : Type 0 where
  pub read : List ℕ
  pub items : List Item
  pub last : List Item
  pub given : List (Option (Result Reply CallFault))
  pub rest : List ℕ
  pub consumed : Consumes input.0 input.1 read
  pub lines : Lines read items rest
  pub served : Serves answers service.0 (items ++ last) given service.1
  pub said : Said r read last rest input.1 output (texts (items ++ last) given)
