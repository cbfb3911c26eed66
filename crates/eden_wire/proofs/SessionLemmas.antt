-- Lemmas on lines that are answered one after another.
use Rattle.std.proofs.Common.{◌≡◌, ℕ, ◌+◌, ◌<◌, ◌≤◌, List, [], ◌∷◌, ◌++◌, take, drop, length, Bool, true, false, Option, None, Some}
use Rattle.std.proofs.Common.{Result, Ok, Err, sym, ap, ◌∙◌, subst, refl, inl, inr, append_assoc, append-nil, arith}
use Rattle.std.proofs.lemmas.Bool.{false≢true}
use Rattle.std.proofs.lemmas.List.{drop-drop, length-take-le}
use Rattle.eden_model.specs.declared.errno.Errno.TheVariants.{EPROTO}
use Rattle.eden_model.specs.declared.reply.Reply.{Reply}
use Rattle.eden_model.specs.declared.fault.CallFault.{CallFault}
use Rattle.eden_wire.specs.Replies.{error_text}
use Rattle.eden_wire.specs.Lines.{longest_line, Lines, IsLine, IsOneLine, IsLineOf}
use Rattle.eden_wire.specs.Lines.Ends.{unreadable, too_long}
use Rattle.eden_wire.specs.Writing.{HandsOver, Flushed, IsIdle}
use Rattle.eden_wire.specs.Serving.{Answering, Known, texts, Serves}
use Rattle.eden_wire.specs.Turns.{Turn, Goes, IsBadEnd, Run, RunLeft, Answered, Left}
use Rattle.eden_wire.specs.declared.request.Item.{Item}
use Rattle.eden_wire.specs.declared.request.Item.TheVariants.{Asks, Refuses, Bad}
use Rattle.eden_wire.specs.declared.output.Output.{Output}
use Rattle.eden_wire.specs.declared.output.WriteFailed.{WriteFailed}
use Rattle.eden_wire.proofs.Growing.{grows_then, grows_none, grows_as, holds_none}

abbrev pub Given : Type 0
Given = List (Option (Result Reply CallFault))

-- lines, and then lines
pub Lines-append : (bytes : List ℕ) (items others : List Item) (mid rest : List ℕ) → Lines bytes items mid → Lines mid others rest
    → Lines bytes (items ++ others) rest
Lines-append bytes [] others mid rest h k = subst (λ b. Lines b others rest) (sym h) k
Lines-append bytes (item ∷ items) others mid rest h k = (h.0, h.1, h.2, h.3, h.4, Lines-append h.1 items others mid rest h.5 k)

-- more bytes come after the rest
pub Lines-more : (bytes : List ℕ) (items : List Item) (rest more : List ℕ) → Lines bytes items rest → Lines (bytes ++ more) items (rest ++ more)
Lines-more bytes [] rest more h = ap (λ b. b ++ more) h
Lines-more bytes (item ∷ items) rest more h =
    let (line, later, whole, is_line, goes, lines) = h in
    (line, later ++ more, ap (λ b. b ++ more) whole ∙ append_assoc line (10 ∷ later) more, is_line, goes, Lines-more later items rest more lines)

module _ {S : Type 0} (answers : Answering S) where
  pub Serves-append : (s : S) (items : List Item) (given : Given) (u : S) (others : List Item) (later : Given) (t : S)
      → Serves answers s items given u → Serves answers u others later t → Serves answers s (items ++ others) (given ++ later) t
  Serves-append s [] [] u others later t h k = subst (λ v. Serves answers v others later t) (sym h) k
  Serves-append s [] (a ∷ given) u others later t h k = absurd h
  Serves-append s (Asks q ∷ items) [] u others later t h k = absurd h
  Serves-append s (Asks q ∷ items) (None ∷ given) u others later t h k = Serves-append s items given u others later t h k
  Serves-append s (Asks q ∷ items) (Some a ∷ given) u others later t h k = (h.0, h.1, Serves-append h.0 items given u others later t h.2 k)
  Serves-append s (Refuses e ∷ items) given u others later t h k = Serves-append s items given u others later t h k
  Serves-append s (Bad ∷ items) given u others later t h k = Serves-append s items given u others later t h k

  pub texts-append : (s : S) (items : List Item) (given : Given) (u : S) (others : List Item) (later : Given) → Serves answers s items given u
      → texts (items ++ others) (given ++ later) ≡ texts items given ++ texts others later
  texts-append s [] [] u others later h = refl
  texts-append s [] (a ∷ given) u others later h = absurd h
  texts-append s (Asks q ∷ items) [] u others later h = absurd h
  texts-append s (Asks q ∷ items) (None ∷ given) u others later h = rw (texts-append s items given u others later h, append_assoc)
  texts-append s (Asks q ∷ items) (Some a ∷ given) u others later h = rw (texts-append h.0 items given u others later h.2, append_assoc)
  texts-append s (Refuses e ∷ items) given u others later h = rw (texts-append s items given u others later h, append_assoc)
  texts-append s (Bad ∷ items) given u others later h = rw (texts-append s items given u others later h, append_assoc)

module _ {S : Type 0} {answers : Answering S} where
  -- one line and its text
  pub turn_of : {on : Bool} {s t : S} {w v : Known} {o p : Output} {line text : List ℕ} (item : Item) (given : Given) → Goes on item → IsLine line item
      → texts (item ∷ []) given ≡ text ++ [] → Serves answers s (item ∷ []) given t → HandsOver w v o p text → Turn answers s t w v o p line on
  turn_of {text = text} item given goes is_line whole served grew = record {
    item = item;
    given = given;
    is_line = is_line;
    goes = goes;
    served = served;
    grew = grows_as (sym (whole ∙ append-nil text)) grew;
  }

module _ {S : Type 0} (answers : Answering S) where
  -- the lines among the first so many bytes were answered
  pub record Lined (service : S × S) (written : Known × Known) (output : Output × Output) (bytes : List ℕ) (used : ℕ) : Type 0 where
    pub items : List Item
    pub given : Given
    pub lines : Lines bytes items (drop used bytes)
    pub served : Serves answers service.0 items given service.1
    pub grew : HandsOver written.0 written.1 output.0 output.1 (texts items given)

module _ {S : Type 0} {answers : Answering S} where
  pub lined_none : {s : S} {w : Known} {o : Output} {bytes : List ℕ} → Lined answers (s, s) (w, w) (o, o) bytes 0
  lined_none {w = w} {o} = record { items = []; given = []; lines = refl; served = refl; grew = grows_none w o }

module _ {S : Type 0} {answers : Answering S} {s t u : S} {w v x : Known} {o p q : Output} {bytes : List ℕ} {used len : ℕ} where
  -- one more line was answered
  pub lined_more : Lined answers (s, t) (w, v) (o, p) bytes used → IsLineOf (drop used bytes) len → Turn answers t u v x p q (take len (drop used bytes)) true
      → Lined answers (s, u) (w, x) (o, q) bytes (used + (len + 1))
  lined_more so found turn =
      let rest = drop used bytes in
      let others = turn.item ∷ [] in
      let more : rest ≡ take len rest ++ 10 ∷ drop (used + (len + 1)) bytes = rw drop-drop at found.split in
      record {
        items = so.items ++ others;
        given = so.given ++ turn.given;
        lines = Lines-append bytes so.items others rest _ so.lines (take len rest, _, more, turn.is_line, turn.goes, refl);
        served = Serves-append answers s so.items so.given t others turn.given u so.served turn.served;
        grew = rw (texts-append answers s so.items so.given t others turn.given so.served) (grows_then so.grew turn.grew);
      }

line_ends : (rest cut : List ℕ) → IsBadEnd cut → rest ≡ cut → IsBadEnd rest
line_ends rest cut bad same = rw same bad

module _ {S : Type 0} {answers : Answering S} {s t u : S} {w v x : Known} {o p q : Output} {bytes after : List ℕ} {used : ℕ} where
  -- a last line was answered, which ends the session
  run_last : (later : Given) → Lined answers (s, t) (w, v) (o, p) bytes used → IsBadEnd (drop used bytes) → Serves answers t (Bad ∷ []) later u
      → HandsOver v x p q (texts (Bad ∷ []) later) → Run answers s u w x o q bytes after false
  run_last later so bad served grew = record {
    items = so.items;
    last = Bad ∷ [];
    given = so.given ++ later;
    rest = drop used bytes;
    lines = so.lines;
    left = (refl, bad);
    served = Serves-append answers s so.items so.given t (Bad ∷ []) later u so.served served;
    grew = rw (texts-append answers s so.items so.given t (Bad ∷ []) later so.served) (grows_then so.grew grew);
  }

  -- that line is no request
  pub run_false : {len : ℕ} → Lined answers (s, t) (w, v) (o, p) bytes used → IsLineOf (drop used bytes) len
      → Turn answers t u v x p q (take len (drop used bytes)) false → Run answers s u w x o q bytes after false
  run_false {len} so found turn =
      let rest = drop used bytes in
      let bad = line_ends rest _ (λ unread. unreadable (take len rest) (drop (len + 1) rest) (rw turn.goes at turn.is_line)) found.split in
      run_last turn.given so bad (rw turn.goes at turn.served) (rw turn.goes at turn.grew)

module _ {S : Type 0} {answers : Answering S} {s t : S} {w v x : Known} {o p q : Output} {bytes after : List ℕ} {used : ℕ} where
  -- a line is too long, so that the service isn't asked
  pub run_badly : Lined answers (s, t) (w, v) (o, p) bytes used → IsBadEnd (drop used bytes) → HandsOver v x p q (error_text EPROTO)
      → Run answers s t w x o q bytes after false
  run_badly so bad grew = run_last [] so bad refl (grows_as (sym (append-nil (error_text EPROTO))) grew)

module _ {S : Type 0} {answers : Answering S} {s t : S} {w v : Known} {o p : Output} {bytes : List ℕ} {used : ℕ} where
  -- the lines end here, and the session goes on
  pub run_on : Lined answers (s, t) (w, v) (o, p) bytes used
      → (p.failed ≡ false → IsOneLine (drop used bytes) × (length (drop used bytes) ≤ longest_line)) → Run answers s t w v o p bytes (drop used bytes) true
  run_on so left = record {
    items = so.items;
    last = [];
    given = so.given;
    rest = drop used bytes;
    lines = so.lines;
    left = (refl, refl, left);
    served = rw append-nil so.served;
    grew = rw append-nil so.grew;
  }

  pub run_failed : Lined answers (s, t) (w, v) (o, p) bytes used → p.failed ≡ true → Run answers s t w v o p bytes (drop used bytes) true
  run_failed so failed = run_on so (λ works. absurd (false≢true (sym works ∙ failed)))

left_ok : (on : Bool) (output : Output) (last : List Item) (rest after : List ℕ) → output.failed ≡ false → RunLeft on output last rest after
    → Left (Ok on) last rest after
left_ok true output last rest after works left = let short = left.2 works in (left.0, left.1, short.0, short.1)
left_ok false output last rest after works left = left

left_err : (on : Bool) (output : Output) (e : WriteFailed) (last : List Item) (rest after : List ℕ) → RunLeft on output last rest after
    → Left (Err e) last rest after
left_err true output e last rest after left = inl left.0
left_err false output e last rest after left = inr left

module _ {S : Type 0} {answers : Answering S} {s t : S} {w v u : Known} {o p q : Output} {bytes after : List ℕ} {on : Bool} where
  -- what was answered is written out
  pub piece_ok : IsIdle o → Run answers s t w v o p bytes after on → Flushed v u p q (Ok tt) → Answered answers s t w u q bytes after (Ok on)
  piece_ok idle run flushed = record {
    items = run.items;
    last = run.last;
    given = run.given;
    rest = run.rest;
    lines = run.lines;
    left = left_ok on p run.last run.rest after flushed.worked run.left;
    served = run.served;
    wrote = flushed.written w _ (run.grew.after w [] (holds_none w o idle));
    idle = flushed.idle;
  }

  -- a beginning of it is written out
  pub piece_err : {e : WriteFailed} → IsIdle o → Run answers s t w v o p bytes after on → Flushed v u p q (Err e)
      → Answered answers s t w u q bytes after (Err e)
  piece_err {e} idle run flushed = record {
    items = run.items;
    last = run.last;
    given = run.given;
    rest = run.rest;
    lines = run.lines;
    left = left_err on p e run.last run.rest after run.left;
    served = run.served;
    wrote = flushed.written w _ (run.grew.after w [] (holds_none w o idle));
    idle = tt;
  }

-- a line that is too long
pub long_line : (bytes : List ℕ) (len : ℕ) → IsLineOf bytes len → longest_line < len → IsBadEnd bytes
long_line bytes len found long =
    let inside = found.inside in
    let size = length-take-le len bytes (omega arith) in
    line_ends bytes _ (λ unread. too_long (take len bytes) (10 ∷ drop (len + 1) bytes) found.one (omega arith)) found.split

-- a beginning of a line that is too long
pub long_rest : (bytes : List ℕ) → IsOneLine bytes → longest_line < length bytes → IsBadEnd bytes
long_rest bytes one long = line_ends bytes _ (λ unread. too_long bytes [] one long) (sym (append-nil bytes))
