-- What a pass does by itself: it leaves what it wanted, awaits a key, quits, or takes its mark.
use Rattle.std.proofs.Common.{◌≡◌, ◌≤◌, ◌-◌, ◌==◌, ◌&&◌, ◌||◌, not, ℕ, Bool, true, false, cond, List, [], slice_index_or, Option, Some, None, IfSome, eqb-true, refl, sym, ap, ◌∙◌, subst}
use Rattle.std.specs.Option.{option_map_or}
use Rattle.std.proofs.Math.ListN.{set, length-set}
use Rattle.std.proofs.lemmas.Bool.{eq-eqb}
use Rattle.eden_model.specs.declared.id.Key.{Key}
use Rattle.eden_model.specs.Keys.{same_key}
use Rattle.eden_import.specs.Keys.{has_key, without_key}
use Rattle.eden_import.specs.Queue.{Queue, Mark, IsQueue, IsPass, WantsNoOther, want_of, mark_of, stands, is_wanted, wants_key, unqueue_unwanted, after_want, after_leave, after_leave_own, after_await}
use Rattle.eden_import.specs.Queue.{after_quit}
use Rattle.eden_import.specs.Laws.{OneAwaits, OneQuits, KeepsFlight, ForgettingKeeps}
use Rattle.eden_import.proofs.KeyLemmas.{same_key-equiv, same_key-refl, has_key-without}
use Rattle.eden_import.proofs.StepLemmas.{leave_wanted, leave_dropped}
use Rattle.eden_import.proofs.LawLemmas.{one_wants, one_leaves, one_forgets}

pub forgetting_keeps : ForgettingKeeps
forgetting_keeps q p h s = record {
  some_passes = h.some_passes;
  some_flights = h.some_flights;
  once = h.once;
  wanted = h.wanted;
  awaited = h.awaited;
  within_flights = h.within_flights;
  each_pass_wants = h.each_pass_wants;
  each_pass_has_mark = length-set q.marks (p - 1) None ∙ h.each_pass_has_mark;
}

-- ---- `leave`

leave_keeps : (k : Key) (p : ℕ) (q : Queue) → IsQueue q → IsQueue (after_leave k p q)
leave_keeps k p q h = at (wants_key k (want_of p q)) refl
  where
    left : wants_key k (want_of p q) ≡ true → (b : Bool) → is_wanted k (set q.wants (p - 1) None) ≡ b
        → IsQueue (record q { queue = cond b q.queue (unqueue_unwanted k [] q).queue; wants = set q.wants (p - 1) None })
    left t true e = leave_wanted k p q h t e
    left t false e = leave_dropped k p q (unqueue_unwanted k [] q).queue h t e refl

    at : (b : Bool) → wants_key k (want_of p q) ≡ b → IsQueue (cond b (unqueue_unwanted k (set q.wants (p - 1) None) q) q)
    at true t = left t (is_wanted k (set q.wants (p - 1) None)) refl
    at false t = h

-- what a pass's own step leaves as it was
abbrev pub Keeps : Queue → Queue → Type 0
Keeps q q' = KeepsFlight q q' × (q'.marks ≡ q.marks)

pub leave_rest : (k : Key) (p : ℕ) (q : Queue) → Keeps q (after_leave k p q)
leave_rest k p q = at (wants_key k (want_of p q))
  where
    at : (b : Bool) → Keeps q (cond b (unqueue_unwanted k (set q.wants (p - 1) None) q) q)
    at true = ((refl, refl, refl), refl)
    at false = ((refl, refl, refl), refl)

-- ---- the pass's own want

own : ℕ → Queue → Option Key → Queue
own p q None = q
own p q (Some k) = after_leave k p q

own_is : (p : ℕ) (q : Queue) → own p q (want_of p q) ≡ after_leave_own p q
unfolding own
own_is p q = at (want_of p q)
  where
    at : (o : Option Key) → own p q o ≡ option_map_or (λ k. after_leave k p q) o q
    at None = refl
    at (Some k) = refl

pub own_keeps : (p : ℕ) (q : Queue) → IsQueue q → IsQueue (after_leave_own p q)
unfolding own
own_keeps p q h = subst IsQueue (own_is p q) (at (want_of p q))
  where
    at : (o : Option Key) → IsQueue (own p q o)
    at None = h
    at (Some k) = leave_keeps k p q h

pub own_rest : (p : ℕ) (q : Queue) → Keeps q (after_leave_own p q)
unfolding own
own_rest p q = subst (Keeps q) (own_is p q) (at (want_of p q))
  where
    at : (o : Option Key) → Keeps q (own p q o)
    at None = ((refl, refl, refl), refl)
    at (Some k) = leave_rest k p q

-- a pass after such a step is one before it
pub same_pass : (r : ℕ) (q q' : Queue) → Keeps q q' → IsPass r q → IsPass r q'
same_pass r q q' kept s = (s.0, subst (λ n. r ≤ n) (sym kept.0.1) s.1)

-- of all wants, the pass's own alone ends
pub want_of-own : (q : Queue) (p r : ℕ) → IsQueue q → IsPass p q → IsPass r q → want_of r (after_leave_own p q) ≡ cond (r == p) None (want_of r q)
unfolding own
want_of-own q p r h s t = ap (want_of r) (sym (own_is p q)) ∙ at (want_of p q) refl
  where
    wanted_none : (b : Bool) → (r == p) ≡ b → want_of p q ≡ None → want_of r q ≡ cond b None (want_of r q)
    wanted_none true e n = ap (λ i. want_of i q) (eqb-true r p e) ∙ n
    wanted_none false e n = refl

    drops : (b d : Bool) → d ≡ true → cond (b && d) None (want_of r q) ≡ cond b None (want_of r q)
    drops b true e = ap (λ x. cond x None (want_of r q)) (and_true b)
      where
        and_true : (x : Bool) → (x && true) ≡ x
        and_true true = refl
        and_true false = refl
    drops b false e = absurd (cc e)

    at : (o : Option Key) → want_of p q ≡ o → want_of r (own p q o) ≡ cond (r == p) None (want_of r q)
    at None w = wanted_none (r == p) refl w
    at (Some k) w = one_leaves q k p r h s t ∙ drops (r == p) (wants_key k (want_of p q)) (ap (wants_key k) w ∙ same_key-refl k)

own_pass : (p : ℕ) → (p == p) ≡ true
own_pass p = eq-eqb p p refl

-- so the pass wants no other key
pub own_alone : (k : Key) (q : Queue) (p : ℕ) → IsQueue q → IsPass p q → WantsNoOther k p (after_leave_own p q)
own_alone k q p h s =
    let none : want_of p (after_leave_own p q) ≡ None = want_of-own q p p h s s ∙ ap (λ b. cond b None (want_of p q)) (own_pass p) in
    subst (λ o. IfSome o (λ j. j ≡ k)) (sym none) tt

-- another key stands where it stood
stands_left : (j k : Key) (p : ℕ) (q : Queue) → same_key j k ≡ false → stands k (after_leave j p q) ≡ stands k q
stands_left j k p q other = at (wants_key j (want_of p q))
  where
    kept : (b : Bool) → has_key k (cond b q.queue (without_key j q.queue)) ≡ has_key k q.queue
    kept true = refl
    kept false = has_key-without k j q.queue ∙ ap (λ b. has_key k q.queue && not b) other ∙ and_true (has_key k q.queue)
      where
        and_true : (b : Bool) → (b && true) ≡ b
        and_true true = refl
        and_true false = refl

    at : (b : Bool) → stands k (cond b (unqueue_unwanted j (set q.wants (p - 1) None) q) q) ≡ stands k q
    at true = ap (λ b. has_key k q.flight || b) (kept (is_wanted j (set q.wants (p - 1) None)))
    at false = refl

pub stands_own : (k : Key) (p : ℕ) (q : Queue) → wants_key k (want_of p q) ≡ false → stands k (after_leave_own p q) ≡ stands k q
unfolding own
stands_own k p q other = ap (stands k) (sym (own_is p q)) ∙ at (want_of p q) other
  where
    at : (o : Option Key) → wants_key k o ≡ false → stands k (own p q o) ≡ stands k q
    at None e = refl
    at (Some j) e = stands_left j k p q (same_key-equiv.symm j k ∙ e)

-- ---- `await_key` and `quit`

pub await_rest : (k : Key) (p : ℕ) (q : Queue) → Keeps q (after_await k p q)
await_rest k p q = at (wants_key k (want_of p q))
  where
    at : (b : Bool) → Keeps q (after_want k p (cond b q (after_leave_own p q)))
    at true = ((refl, refl, refl), refl)
    at false = own_rest p q

pub quit_rest : (p : ℕ) (q : Queue) → KeepsFlight q (after_quit p q)
quit_rest p q = (own_rest p q).0

pub one_awaits : OneAwaits
one_awaits q k p r h s t = at (wants_key k (want_of p q))
  where
    over : (b : Bool) (x : Option Key) → want_of r (after_leave_own p q) ≡ cond b None x → cond b (Some k) (want_of r (after_leave_own p q)) ≡ cond b (Some k) x
    over true x e = refl
    over false x e = e

    at : (b : Bool) → want_of r (after_want k p (cond b q (after_leave_own p q))) ≡ cond (r == p) (Some k) (want_of r q)
    at true = one_wants q k p r h s t
    at false =
        let rest = own_rest p q in
        one_wants (after_leave_own p q) k p r (own_keeps p q h) (same_pass p q (after_leave_own p q) rest s) (same_pass r q (after_leave_own p q) rest t)
        ∙ over (r == p) (want_of r q) (want_of-own q p r h s t)

pub one_quits : OneQuits
one_quits q p r h s t =
    let rest = own_rest p q in
    let marks : mark_of r (after_leave_own p q) ≡ mark_of r q = ap (λ (ms : List (Option Mark)). slice_index_or ms (r - 1) None) rest.1 in (
      want_of-own q p r h s t,
      one_forgets (after_leave_own p q) p r (own_keeps p q h) (same_pass p q (after_leave_own p q) rest s) (same_pass r q (after_leave_own p q) rest t) ∙ ap (cond (r == p) None) marks,
    )
