-- What a server says: the answers to the lines that it read.
use Rattle.std.specs.Prelude.{◌≡◌, ◌≢◌, ◌<◌, ◌⊎◌, ℕ, List, [], ◌∷◌, ◌++◌, length, take, Result, Ok, Err, ⊤}
use Rattle.std.specs.List.{flat_map}
use Rattle.std.specs.Io.KnownBytes.{Appends, Consumes, IsAtEnd}
use Rattle.hex.specs.Hex.{encode_lower}
use Rattle.eden_model.specs.declared.id.Id.{Id}
use Rattle.eden_object.specs.IdText.{IsIdText}
use Rattle.eden_source.specs.Fetching.{Answer, Ask, Fetches}
use Rattle.eden_remote.specs.Protocol.{Known, IsOneLine, get_line, answer_text, SendsUpTo}
use Rattle.eden_remote.specs.declared.fault.AnswerFault.{AnswerFault}
use Rattle.eden_remote.specs.declared.fault.AnswerFault.TheVariants as fault
use Rattle.eden_remote.specs.declared.line.Line.{Line}
use Rattle.eden_remote.specs.declared.line.Line.TheVariants.{Part, Asks, Other}

-- the lines that ask, and the answers to them
abbrev pub lines_of : List Ask → List ℕ
lines_of asks = flat_map (λ a. get_line (encode_lower a.id.bytes)) asks

abbrev pub answers_to : List Ask → List ℕ
answers_to asks = flat_map (λ a. answer_text a.answer) asks

-- whatever comes after these bytes, they don't begin with a line that asks
abbrev pub IsOther : List ℕ → Type 0
IsOther rest = (digits more tail : List ℕ) → IsIdText digits → rest ++ more ≢ get_line digits ++ tail

-- what the bytes of a line are
abbrev pub Judged : List ℕ → Line → Type 0
Judged bytes Part = IsOneLine bytes × (length bytes < 45)
Judged bytes (Asks id) = bytes ≡ get_line (encode_lower id.bytes)
Judged bytes Other = IsOther bytes

-- the source answered, and the answer was written, or at an error a beginning of it
pub record Answered {S : Type 0} (fetched : S → Id → Answer → S → Type 0) (s t : S) (old new : Known) (id : Id)
    {E : Type 0} (r : Result ⊤ E) : Type 0 where
  pub answer : Answer
  pub told : fetched s id answer t
  pub sent : SendsUpTo old new (answer_text answer) r

-- how it ended: with the input's end, where no line or a beginning of one is left, or with a line that asks for nothing;
-- at a failed read after the answers to all lines; at a failed write in the answer to the last
abbrev pub Said : Result ⊤ AnswerFault → List Ask → List ℕ → Known → Known × Known → Type 0
Said (Ok _) asks rest unread output = ((IsOneLine rest × IsAtEnd unread) ⊎ IsOther rest) × Appends output.0 output.1 (answers_to asks)
Said (Err fault.Read) asks rest unread output = IsOneLine rest × Appends output.0 output.1 (answers_to asks)
Said (Err fault.Write) asks rest unread output =
    (done : List Ask) × (last : Ask) × (n : ℕ) × (asks ≡ done ++ last ∷ []) × (rest ≡ [])
    × Appends output.0 output.1 (answers_to done ++ take n (answer_text last.answer))

-- a connection that was served, with the source, the input and the output before and after it: the bytes that were read
-- are lines that ask, and a rest; the source was asked so, and the answers were written
pub record Served {S : Type 0} (fetched : S → Id → Answer → S → Type 0) (source : S × S) (input output : Known × Known)
    (r : Result ⊤ AnswerFault) : Type 0 where
  pub read : List ℕ
  pub asks : List Ask
  pub rest : List ℕ
  pub consumed : Consumes input.0 input.1 read
  pub lines : read ≡ lines_of asks ++ rest
  pub told : Fetches fetched source.0 asks source.1
  pub said : Said r asks rest input.1 output
