-- Lemmas on the room for an answer: what holds of a turn with some room holds of it with less, and a refusal takes 16 bytes.
use Rattle.std.proofs.Common.{◌≡◌, ◌≤◌, ℕ, List, [], length, Some, None, refl, arith}
use Rattle.eden_fuse_format.specs.declared.answer.Answer.TheVariants as answer
use Rattle.eden_fuse_format.specs.declared.message.Header.{Header}
use Rattle.eden_fuse_format.specs.declared.message.Message.{Message}
use Rattle.eden_fuse_format.specs.declared.message.Message.TheVariants.{Request, Unknown, Malformed, Unframed}
use Rattle.eden_fuse_format.specs.Answers.{out_header}
use Rattle.eden_fuse_format.specs.Asked.{Asked}
use Rattle.eden_fuse_format.specs.Members.{members_text}
use Rattle.eden_fuse_session.specs.declared.service.Said.TheVariants.{Answers}
use Rattle.eden_fuse_session.specs.declared.turning.Turned.{Turned}
use Rattle.eden_fuse_session.specs.declared.turning.Turned.TheVariants as turned
use Rattle.eden_fuse_session.specs.Turns.{Told, Line, SendsNoMemory, SendsAnswer, Does, Turn, no_memory, text_of, told}

pub refusal_len : (unique : ℕ) → length (text_of unique no_memory) ≡ 16
unfolding out_header members_text
refusal_len unique = refl

refuses_in_less : (unique : ℕ) (old new : Line) (less room : ℕ) (r : Turned) → less ≤ room → SendsNoMemory unique old new room r → SendsNoMemory unique old new less r
refuses_in_less unique old new less room turned.NoMemory le refuses = refuses
refuses_in_less unique old new less room turned.NotSent le refuses = refuses
refuses_in_less unique old new less room turned.NoRoom le refuses = (refuses.0, refuses.1, omega (arith, le, refuses.2))
refuses_in_less unique old new less room turned.Answered le refuses = elim refuses [ ]
refuses_in_less unique old new less room turned.Silent le refuses = elim refuses [ ]
refuses_in_less unique old new less room turned.Unframed le refuses = elim refuses [ ]

replies_in_less : (unique : ℕ) (t : Told) (old new : Line) (less room : ℕ) (r : Turned) → less ≤ room → SendsAnswer unique t old new room r → SendsAnswer unique t old new less r
replies_in_less unique None old new less room turned.Silent le replies = replies
replies_in_less unique None old new less room turned.Answered le replies = elim replies [ ]
replies_in_less unique None old new less room turned.NotSent le replies = elim replies [ ]
replies_in_less unique None old new less room turned.NoMemory le replies = elim replies [ ]
replies_in_less unique None old new less room turned.NoRoom le replies = elim replies [ ]
replies_in_less unique None old new less room turned.Unframed le replies = elim replies [ ]
replies_in_less unique (Some t) old new less room turned.Silent le replies = elim replies [ ]
replies_in_less unique (Some t) old new less room turned.Unframed le replies = elim replies [ ]
replies_in_less unique (Some t) old new less room turned.Answered le replies = replies
replies_in_less unique (Some t) old new less room turned.NotSent le replies = replies
replies_in_less unique (Some t) old new less room turned.NoMemory le replies = (replies.0, omega (arith, le, replies.1))
replies_in_less unique (Some t) old new less room turned.NoRoom le replies =
    (refuses_in_less unique old new less room turned.NoRoom le replies.0, omega (arith, le, replies.1))

module _ {S : Type 0} (answers : S → Header → Asked → Told → S → Type 0) where
  does_in_less : (m : Message) (s t : S) (old new : Line) (less room : ℕ) (r : Turned) → less ≤ room → Does answers m s t old new room r → Does answers m s t old new less r
  does_in_less (Request header operation) s t old new less room r le (said, answered, replies) =
      (said, answered, replies_in_less header.unique said old new less room r le replies)
  does_in_less (Unknown unique) s t old new less room r le (same, replies) =
      (same, replies_in_less unique (told (Answers (answer.Refused 38)) []) old new less room r le replies)
  does_in_less (Malformed unique) s t old new less room r le (same, replies) =
      (same, replies_in_less unique (told (Answers (answer.Refused 22)) []) old new less room r le replies)
  does_in_less Unframed s t old new less room r le does = does

  pub turn_in_less : (message : List ℕ) (s t : S) (old new : Line) (less room : ℕ) (r : Turned) → less ≤ room
      → Turn answers message s t old new room r → Turn answers message s t old new less r
  turn_in_less message s t old new less room r le (m, reads, does) = (m, reads, does_in_less m s t old new less room r le does)
