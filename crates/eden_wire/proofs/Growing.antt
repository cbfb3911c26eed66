-- Lemmas on what was handed to an output.
use Rattle.std.proofs.Common.{◌≡◌, ℕ, List, [], ◌++◌, take, drop, Bool, true, false, Option, Result, Ok, Err, sym, ap, ◌∙◌, subst, refl, append_assoc, append-nil, take-append-drop, is_err}
use Rattle.std.proofs.lemmas.Bool.{false≢true}
use Rattle.std.proofs.KnownBytes.{Appends-kept, Appends-nil, Appends-trans}
use Rattle.std.specs.Io.KnownBytes.{Appends, Keeps}
use Rattle.eden_wire.specs.Writing.{WritesFront, WritesText, Holds, HandsOver, Flushed, IsIdle}
use Rattle.eden_wire.specs.declared.output.WriteFailed.{WriteFailed}
use Rattle.eden_wire.specs.declared.output.Output.{Output}

-- a text, and then another
pub grows_then : {w v u : Option (List ℕ)} {o p q : Output} {x y : List ℕ} → HandsOver w v o p x → HandsOver v u p q y → HandsOver w u o q (x ++ y)
grows_then {u = u} {q = q} {x = x} {y = y} g h = record { after = λ start before held. subst (Holds start u q) (append_assoc before x y) (h.after start (before ++ x) (g.after start before held)) }

pub grows_none : (w : Option (List ℕ)) (o : Output) → HandsOver w w o o []
grows_none w o = record { after = λ start before held. subst (Holds start w o) (sym (append-nil before)) held }

-- what was lost after a failed write
pub grows_lost : (w : Option (List ℕ)) (o p : Output) (text : List ℕ) → p.failed ≡ true → HandsOver w w o p text
grows_lost w o p text failed = record {
  after = λ start before held. record {
    sent = held.sent;
    rest = held.rest ++ text;
    whole = ap (λ l. l ++ text) held.whole ∙ append_assoc held.sent held.rest text;
    appends = held.appends;
    waits = λ works. absurd (false≢true (sym works ∙ failed));
  };
}

-- what is held
pub grows_held : (w : Option (List ℕ)) (o p : Output) (text : List ℕ) → p.failed ≡ o.failed → p.pending.items ≡ o.pending.items ++ text → HandsOver w w o p text
grows_held w o p text failed pending = record {
  after = λ start before held. record {
    sent = held.sent;
    rest = held.rest ++ text;
    whole = ap (λ l. l ++ text) held.whole ∙ append_assoc held.sent held.rest text;
    appends = held.appends;
    waits = λ works. ap (λ l. l ++ text) (held.waits (sym failed ∙ works)) ∙ sym pending;
  };
}

-- a beginning of the text was sent, and this rest is left
pub record Sent (old now : Option (List ℕ)) (text rest : List ℕ) : Type 0 where
  pub front : List ℕ
  pub whole : text ≡ front ++ rest
  pub appends : Appends old now front

pub sent_none : (w : Option (List ℕ)) (text : List ℕ) → Sent w w text text
sent_none w text = record { front = []; whole = refl; appends = Appends-nil w }

pub sent_more : (w v u : Option (List ℕ)) (text rest left : List ℕ) (n : ℕ) → Sent w v text rest → Appends v u (take n rest) → left ≡ drop n rest → Sent w u text left
sent_more w v u text rest left n so taken e = record {
  front = so.front ++ take n rest;
  whole = so.whole ∙ ap (λ l. so.front ++ l) (sym (take-append-drop n rest) ∙ ap (λ l. take n rest ++ l) (sym e)) ∙ sym (append_assoc so.front (take n rest) left);
  appends = Appends-trans w v u so.front (take n rest) so.appends taken;
}

pub sent_whole : (w v : Option (List ℕ)) (text rest : List ℕ) → Sent w v text rest → rest ≡ [] → Appends w v text
sent_whole w v text rest so none = subst (Appends w v) (sym (so.whole ∙ ap (λ l. so.front ++ l) none ∙ append-nil so.front)) so.appends

pub sent_part : (w v u : Option (List ℕ)) (text rest : List ℕ) → Sent w v text rest → Appends v u [] → WritesFront w u text
sent_part w v u text rest so none = record { front = so.front; rest = rest; whole = so.whole; appends = subst (Appends w u) (append-nil so.front) (Appends-trans w v u so.front [] so.appends none) }

-- what a call that sends leaves unsent: nothing, unless it failed
record Passed (w v : Option (List ℕ)) (text : List ℕ) (failed : Bool) : Type 0 where
  sent : List ℕ
  rest : List ℕ
  whole : text ≡ sent ++ rest
  appends : Appends w v sent
  all : failed ≡ false → rest ≡ []

passed : (w v : Option (List ℕ)) (text : List ℕ) (failed : Bool) (r : Result (Unit {0}) WriteFailed) → WritesText w v r text → failed ≡ is_err r → Passed w v text failed
passed w v text failed (Ok d) wrote e = record { sent = text; rest = []; whole = sym (append-nil text); appends = wrote; all = λ works. refl }
passed w v text failed (Err d) wrote e = record { sent = wrote.front; rest = wrote.rest; whole = wrote.whole; appends = wrote.appends; all = λ works. absurd (false≢true (sym works ∙ e)) }

-- what was held was sent
pub grows_sent : (w v : Option (List ℕ)) (o p : Output) (r : Result (Unit {0}) WriteFailed) → o.failed ≡ false → WritesText w v r o.pending.items → p.failed ≡ is_err r → p.pending.items ≡ []
    → HandsOver w v o p []
grows_sent w v o p r works wrote failed empty =
    let part = passed w v o.pending.items p.failed r wrote failed in
    record {
      after = λ start before held. record {
        sent = held.sent ++ part.sent;
        rest = part.rest;
        whole = append-nil before ∙ held.whole ∙ ap (λ l. held.sent ++ l) (held.waits works ∙ part.whole) ∙ sym (append_assoc held.sent part.sent part.rest);
        appends = Appends-trans start w v held.sent part.sent held.appends part.appends;
        waits = λ still. part.all still ∙ sym empty;
      };
    }

-- bytes were sent where none were held
pub grows_passed : (w v : Option (List ℕ)) (o p : Output) (text : List ℕ) (r : Result (Unit {0}) WriteFailed) → o.failed ≡ false → o.pending.items ≡ [] → WritesText w v r text → p.failed ≡ is_err r
    → p.pending.items ≡ [] → HandsOver w v o p text
grows_passed w v o p text r works none wrote failed empty =
    let part = passed w v text p.failed r wrote failed in
    record {
      after = λ start before held. record {
        sent = held.sent ++ part.sent;
        rest = part.rest;
        whole = ap (λ l. l ++ text) (held.whole ∙ ap (λ l. held.sent ++ l) (held.waits works ∙ none) ∙ append-nil held.sent) ∙ ap (λ l. held.sent ++ l) part.whole ∙ sym
            (append_assoc held.sent part.sent part.rest);
        appends = Appends-trans start w v held.sent part.sent held.appends part.appends;
        waits = λ still. part.all still ∙ sym empty;
      };
    }

-- at the start
pub holds_none : (w : Option (List ℕ)) (o : Output) → IsIdle o → Holds w w o []
holds_none w o idle = record { sent = []; rest = []; whole = refl; appends = Appends-nil w; waits = λ works. sym idle.empty }

-- nothing is held back
pub holds_all : (start now : Option (List ℕ)) (o : Output) (text : List ℕ) → Holds start now o text → IsIdle o → Appends start now text
holds_all start now o text held idle = subst (Appends start now) (sym (held.whole ∙ ap (λ l. held.sent ++ l) (held.waits idle.working ∙ idle.empty) ∙ append-nil held.sent)) held.appends

pub holds_front : (start now : Option (List ℕ)) (o : Output) (text : List ℕ) → Holds start now o text → WritesFront start now text
holds_front start now o text held = record { front = held.sent; rest = held.rest; whole = held.whole; appends = held.appends }

-- the same after an exact growth by nothing
pub holds_on : (start w v : Option (List ℕ)) (o p : Output) (text : List ℕ) → Holds start w o text → HandsOver w v o p [] → Holds start v p text
holds_on start w v o p text held g = subst (Holds start v p) (append-nil text) (g.after start text held)

pub front_kept : (start now end : Option (List ℕ)) (text : List ℕ) → WritesFront start now text → Keeps now end → WritesFront start end text
front_kept start now end text w kept = record { front = w.front; rest = w.rest; whole = w.whole; appends = Appends-kept start now end w.front w.appends kept }

-- nothing was held, so that nothing is to be written
pub flushed_idle : (w : Option (List ℕ)) (o : Output) → IsIdle o → Flushed w w o o (Ok tt)
flushed_idle w o idle = record { written = λ start before held. holds_all start w o before held idle; idle = idle; worked = idle.working }

-- what was held is written
pub flushed_all : (w v u : Option (List ℕ)) (o p : Output) → HandsOver w v o p [] → IsIdle p → o.failed ≡ false → Keeps v u → Flushed w u o p (Ok tt)
flushed_all w v u o p g idle works kept = record {
  written = λ start before held. Appends-kept start v u before (holds_all start v p before (holds_on start w v o p before held g) idle) kept;
  idle = idle;
  worked = works;
}

-- a write failed
pub flushed_front : (w v u : Option (List ℕ)) (o p : Output) (d : WriteFailed) → HandsOver w v o p [] → Keeps v u → Flushed w u o p (Err d)
flushed_front w v u o p d g kept = record {
  written = λ start before held. front_kept start v u before (holds_front start v p before (holds_on start w v o p before held g)) kept;
  idle = tt;
  worked = tt;
}

-- the same text in other words
pub grows_as : {w v : Option (List ℕ)} {o p : Output} {x y : List ℕ} → x ≡ y → HandsOver w v o p x → HandsOver w v o p y
grows_as {w = w} {v = v} {o = o} {p = p} e g = subst (HandsOver w v o p) e g
