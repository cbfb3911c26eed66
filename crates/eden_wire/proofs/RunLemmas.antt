-- Lemmas on a session that reads in pieces: it is as if all that it read had been answered at once.
use Rattle.std.proofs.Common.{◌≡◌, ℕ, ◌<◌, ◌≤◌, List, [], ◌∷◌, ◌++◌, length, Bool, true, false, ◌==◌, Result, Ok, Err, inl, inr, ◌⊎◌}
use Rattle.std.proofs.Common.{take, ap, ◌∙◌, refl, append_assoc, append-nil, arith}
use Rattle.std.proofs.lemmas.Bool.{false≢true}
use Rattle.std.proofs.lemmas.List.{nil_from_length, take-append-le, take_all}
use Rattle.std.proofs.KnownBytes.{Appends-nil, Appends-kept, Appends-trans, Consumes-nil, Consumes-kept, Consumes-trans, Keeps-refl}
use Rattle.std.specs.Prelude.{⊤}
use Rattle.std.specs.Io.KnownBytes.{Appends, Consumes, IsAtEnd, Keeps}
use Rattle.eden_model.specs.declared.errno.Errno.TheVariants.{EPROTO}
use Rattle.eden_wire.specs.Replies.{error_text}
use Rattle.eden_wire.specs.Lines.{longest_line, Lines, Ends}
use Rattle.eden_wire.specs.Lines.Ends.{whole, cut}
use Rattle.eden_wire.specs.Reading.{ReadSome}
use Rattle.eden_wire.specs.Writing.{WritesFront, WritesText, IsIdle}
use Rattle.eden_wire.specs.Serving.{Answering, Known, texts, Serves, Said, Session}
use Rattle.eden_wire.specs.Turns.{IsBadEnd, Answered, Ended}
use Rattle.eden_wire.specs.declared.request.Item.{Item}
use Rattle.eden_wire.specs.declared.request.Item.TheVariants.{Bad}
use Rattle.eden_wire.specs.declared.output.Output.{Output}
use Rattle.eden_wire.specs.declared.output.WriteFailed.{WriteFailed}
use Rattle.eden_wire.specs.declared.session_fault.SessionFault.{SessionFault}
use Rattle.eden_wire.specs.declared.session_fault.SessionFault.TheVariants as fault
use Rattle.eden_wire.proofs.SessionLemmas.{Lines-append, Lines-more, Serves-append, texts-append}

-- a text was written, and then a beginning of another
front_then : (o p q : Known) (x y : List ℕ) → Appends o p x → WritesFront p q y → WritesFront o q (x ++ y)
front_then o p q x y done w = record {
  front = x ++ w.front;
  rest = w.rest;
  whole = simp (w.whole, append_assoc);
  appends = Appends-trans o p q x w.front done w.appends;
}

-- a text was written, and then another, or at an error a beginning of it
writes_then : {T E : Type 0} (r : Result T E) (o p q : Known) (x y : List ℕ) → Appends o p x → WritesText p q r y → WritesText o q r (x ++ y)
writes_then (Ok v) o p q x y done wrote = Appends-trans o p q x y done wrote
writes_then (Err e) o p q x y done wrote = front_then o p q x y done wrote

-- a beginning of a text is so many of its first bytes
first_bytes : (old new : Known) (text : List ℕ) → WritesFront old new text → (n : ℕ) × Appends old new (take n text)
first_bytes old new text w =
    let n = length w.front in
    let same : take n text ≡ w.front = ap (take n) w.whole ∙ take-append-le n w.front w.rest (omega arith) ∙ take_all n w.front (omega arith) in
    (n, rw same w.appends)

-- the input ends with a line that is no request or too long
bad_end : (rest : List ℕ) (unread : Known) (last : List Item) → (last ≡ Bad ∷ []) × IsBadEnd rest → Ends unread rest last
bad_end rest unread last bad = rw bad.0 (bad.1 unread)

module _ {S : Type 0} (answers : Answering S) where
  -- all that a session has read was answered like one piece
  pub record Through (service : S × S) (input written : Known × Known) (output : Output) (after : List ℕ) (r : Result Bool WriteFailed) : Type 0 where
    pub read : List ℕ
    pub consumed : Consumes input.0 input.1 read
    pub answered : Answered answers service.0 service.1 written.0 written.1 output read after r

module _ {S : Type 0} {answers : Answering S} where
  -- where the session goes on no line was bad
  no_last : {s t : S} {o p : Known} {output : Output} {bytes after : List ℕ} (a : Answered answers s t o p output bytes after (Ok true))
      → Serves answers s a.items a.given t × Appends o p (texts a.items a.given)
  no_last a = let all : a.items ++ a.last ≡ a.items = simp (a.left.0, append-nil) in (rw all at a.served, rw all at a.wrote)

  -- a piece was answered, and then what was left of it with one more piece
  answered_more : {s t u : S} {o p q : Known} {before output : Output} {bytes rest after : List ℕ} {r : Result Bool WriteFailed} (piece : List ℕ)
      → Answered answers s t o p before bytes rest (Ok true) → Answered answers t u p q output (rest ++ piece) after r
      → Answered answers s u o q output (bytes ++ piece) after r
  answered_more {s = s} {t} {u} {o} {p} {q} {bytes = bytes} {rest} {r = r} piece a b =
      let (served, wrote) = no_last a in
      let lines : Lines (bytes ++ piece) a.items (rest ++ piece) = Lines-more bytes a.items rest piece (rw a.left.1 at a.lines) in
      let others = b.items ++ b.last in
      record {
        items = a.items ++ b.items;
        last = b.last;
        given = a.given ++ b.given;
        rest = b.rest;
        lines = Lines-append (bytes ++ piece) a.items b.items (rest ++ piece) b.rest lines b.lines;
        left = b.left;
        served = rw append_assoc (Serves-append answers s a.items a.given t others b.given u served b.served);
        wrote = rw (append_assoc, texts-append answers s a.items a.given t others b.given served) (writes_then r o p q _ _ wrote b.wrote);
        idle = b.idle;
      }

  -- a piece was read, and its lines were answered
  pub through_more : {s t u : S} {i j k o p q : Known} {before output : Output} {rest now after : List ℕ} {n : ℕ} {r : Result Bool WriteFailed}
      → Through answers (s, t) (i, j) (o, p) before rest (Ok true) → ReadSome j k rest now n → Answered answers t u p q output now after r
      → Through answers (s, u) (i, k) (o, q) output after r
  through_more {i = i} {j} {k} so found a = record {
    read = so.read ++ found.piece;
    consumed = Consumes-trans i j k so.read found.piece so.consumed found.consumed;
    answered = answered_more found.piece so.answered (rw found.joined at a);
  }

  -- before the first read
  pub through_none : {s : S} {i o : Known} {output : Output} {rest : List ℕ} → IsIdle output → rest ≡ []
      → Through answers (s, s) (i, i) (o, o) output rest (Ok true)
  through_none {i = i} {o} idle none = rw none record {
    read = [];
    consumed = Consumes-nil i;
    answered = record {
      items = [];
      last = [];
      given = [];
      rest = [];
      lines = refl;
      left = (refl, refl, tt, omega arith);
      served = refl;
      wrote = Appends-nil o;
      idle = idle;
    };
  }

  -- there was no memory to read into
  pub session_none : {s : S} {i o : Known} → Session answers (s, s) (i, i) (o, o) (Err fault.Memory)
  session_none {i = i} {o} = record {
    read = [];
    items = [];
    last = [];
    given = [];
    rest = [];
    consumed = Consumes-nil i;
    lines = refl;
    served = refl;
    said = (refl, refl, Keeps-refl o);
  }

module _ {S : Type 0} {answers : Answering S} {service : S × S} {i j k : Known} {written : Known × Known} {output : Output} {rest : List ℕ} where
  -- nothing was read
  pub through_kept : Through answers service (i, j) written output rest (Ok true) → Keeps j k → Through answers service (i, k) written output rest (Ok true)
  through_kept so kept = record { read = so.read; consumed = Consumes-kept i j k so.read so.consumed kept; answered = so.answered }

  -- the input has ended, and nothing more was read
  through_end : {now : List ℕ} {n : ℕ} → Through answers service (i, j) written output rest (Ok true) → ReadSome j k rest now n → n ≡ 0
      → Through answers service (i, k) written output now (Ok true)
  through_end so found none =
      let empty = nil_from_length found.piece (found.size ∙ none) in
      rw (found.joined, empty, append-nil) record {
        read = so.read;
        consumed = simp (empty, append-nil) at (Consumes-trans i j k so.read found.piece so.consumed found.consumed);
        answered = so.answered;
      }

module _ {S : Type 0} {answers : Answering S} {service : S × S} {input written : Known × Known} {output : Output} {rest : List ℕ} where
  pub through_short : Through answers service input written output rest (Ok true) → length rest ≤ longest_line
  through_short so = rw (← so.answered.left.1) so.answered.left.3

  -- the session ends, and no more is said than what was answered
  session_of : {r : Result Bool WriteFailed} (so : Through answers service input written output rest r) (ends : Result ⊤ SessionFault)
      → (let a = so.answered in Said ends so.read a.last a.rest input.1 written (texts (a.items ++ a.last) a.given))
      → Session answers service input written ends
  session_of so ends said =
      let a = so.answered in
      record {
        read = so.read;
        items = a.items;
        last = a.last;
        given = a.given;
        rest = a.rest;
        consumed = so.consumed;
        lines = a.lines;
        served = a.served;
        said = said;
      }

  -- a line was bad
  pub session_bad : Through answers service input written output rest (Ok false) → Session answers service input written (Ok tt)
  session_bad so = session_of so (Ok tt) (bad_end _ _ _ so.answered.left, so.answered.wrote)

  -- a write failed
  pub session_unwritten : {e : WriteFailed} → Through answers service input written output rest (Err e)
      → Session answers service input written (Err fault.Write)
  session_unwritten so =
      let front = first_bytes _ _ _ so.answered.wrote in
      session_of so (Err fault.Write) (ends so.answered.left, front.0, front.1)
    where
      ends : (so.answered.last ≡ []) ⊎ ((so.answered.last ≡ Bad ∷ []) × IsBadEnd so.answered.rest)
          → (so.answered.last ≡ []) ⊎ Ends input.1 so.answered.rest so.answered.last
      ends (inl none) = inl none
      ends (inr bad) = inr (bad_end _ _ _ bad)

  -- a read failed
  pub session_unread : Through answers service input written output rest (Ok true) → Session answers service input written (Err fault.Read)
  session_unread so = session_of so (Err fault.Read) (so.answered.left.0, so.answered.left.2, so.answered.wrote)

  -- the input ended within a line
  cut_end : Through answers service input written output rest (Ok true) → 0 < length rest → IsAtEnd input.1 → Ends input.1 rest (Bad ∷ [])
  cut_end so some end = cut rest (rw so.answered.left.1 at so.answered.left.2) some end

module _ {S : Type 0} {answers : Answering S} {service : S × S} {input : Known × Known} {o p q : Known} {output : Output} where
  -- the session ends with the input, and something more may be said
  session_last : {rest : List ℕ} (so : Through answers service input (o, p) output rest (Ok true)) (last : List Item)
      → Serves answers service.1 last [] service.1 → (ends : Result ⊤ SessionFault) → WritesText p q ends (texts last [])
      → ((text : List ℕ) → WritesText o q ends text → Said ends so.read last rest input.1 (o, q) text) → Session answers service input (o, q) ends
  session_last {rest} so last serves ends more says =
      let a = so.answered in
      let (served, wrote) = no_last a in
      record {
        read = so.read;
        items = a.items;
        last = last;
        given = a.given ++ [];
        rest = rest;
        consumed = so.consumed;
        lines = rw a.left.1 at a.lines;
        served = Serves-append answers service.0 a.items a.given service.1 last [] service.1 served serves;
        said = says _ (rw (texts-append answers service.0 a.items a.given service.1 last [] served) (writes_then ends o p q _ _ wrote more));
      }

  -- the input has ended, after a line feed or within a line, which is bad
  session_ended : (r : Result ⊤ SessionFault) (rest : List ℕ) → Through answers service input (o, p) output rest (Ok true) → IsAtEnd input.1
      → Ended rest p q r → Session answers service input (o, q) r
  session_ended r [] so end ended =
      let nothing : Appends p q [] = Appends-kept p p q [] (Appends-nil p) ended.1 in
      rw ended.0 (session_last so [] refl (Ok tt) nothing (λ text wrote. (whole end, wrote)))
  session_ended (Ok v) (b ∷ rest) so end ended =
      session_last so (Bad ∷ []) refl (Ok v) (rw append-nil ended) (λ text wrote. (cut_end so (omega arith) end, wrote))
  session_ended (Err e) (b ∷ rest) so end ended =
      let bad = cut_end so (omega arith) end in
      rw ended.0 (session_last so (Bad ∷ []) refl (Err fault.Write) (rw append-nil ended.1) (λ text wrote. let front = first_bytes _ _ _ wrote in (inr bad, front.0, front.1)))

pub session_end : {S : Type 0} {answers : Answering S} {service : S × S} {i j k o p q : Known} {output : Output} {rest now : List ℕ} {n : ℕ}
    {r : Result ⊤ SessionFault} → Through answers service (i, j) (o, p) output rest (Ok true) → ReadSome j k rest now n → n ≡ 0 → Ended now p q r
    → Session answers service (i, k) (o, q) r
session_end {now = now} {r = r} so found none ended = session_ended r now (through_end so found none) (found.at_end none) ended

-- what is said to a last line that isn't ended
pub ended_ok : (rest : List ℕ) (old new : Known) → false ≡ (length rest == 0) → Appends old new (error_text EPROTO) → Ended rest old new (Ok tt)
ended_ok [] old new some wrote = absurd (false≢true some)
ended_ok (b ∷ rest) old new some wrote = wrote

pub ended_err : (rest : List ℕ) (old new : Known) → false ≡ (length rest == 0) → WritesFront old new (error_text EPROTO) → Ended rest old new (Err fault.Write)
ended_err [] old new some wrote = absurd (false≢true some)
ended_err (b ∷ rest) old new some wrote = (refl, wrote)
