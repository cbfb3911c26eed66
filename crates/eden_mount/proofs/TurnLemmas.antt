-- What a turn, an arrival and a failure do to each pass's want and mark.
use Rattle.std.proofs.Common.{◌≡◌, ◌-◌, ◌==◌, ℕ, Bool, true, false, cond, List, Option, Some, None, slice_index_or, refl, ap, ◌∙◌}
use Rattle.eden_model.specs.declared.fault.Cause.{Cause}
use Rattle.eden_model.specs.declared.fault.Cause.TheVariants as cause
use Rattle.eden_model.specs.declared.id.Key.{Key}
use Rattle.eden_import.specs.Queue.{Queue, Mark, IsQueue, IsPass, want_of, mark_of, wants_key, after_await, after_quit, after_done, after_failed, after_failure}
use Rattle.eden_import.proofs.CallerLemmas.{all_are_met, wanters_are_marked, one_forgets, one_awaits, one_quits, forgetting_keeps, marks_stay}
use Rattle.eden_mount.specs.declared.events.Turned.{Turned}
use Rattle.eden_mount.specs.declared.events.Turned.TheVariants.{Done, Wait, Idle}
use Rattle.eden_mount.specs.Tables.{Table, Ticks}
use Rattle.eden_mount.specs.Core.{Core}
use Rattle.eden_mount.specs.Steps.{Turns, GoesOn}

-- ---- a key lands or fails: who wants nothing is left alone

pub nobody_met : (q : Queue) (k : Key) (r : ℕ) → want_of r q ≡ None → want_of r (after_done k q) ≡ None
nobody_met q k r n = (all_are_met q k cause.Memory r).0 ∙ at (want_of r q) n
  where
    at : (o : Option Key) → o ≡ None → cond (wants_key k o) None o ≡ None
    at None e = refl
    at (Some j) e = absurd (cc e)

pub nobody_marked : (q : Queue) (k : Key) (x : Cause) (r : ℕ) → IsQueue q → IsPass r q → want_of r q ≡ None → mark_of r q ≡ None → mark_of r (after_failed k x q) ≡ None
nobody_marked q k x r h s n m = wanters_are_marked q k x r h s ∙ at (want_of r q) n
  where
    at : (o : Option Key) → o ≡ None → cond (wants_key k o) (Some (k, x)) (mark_of r q) ≡ None
    at None e = m
    at (Some j) e = absurd (cc e)

-- ---- a turn of a pass

module _ (q : Queue) (c r : ℕ) (h : IsQueue q) (s : IsPass c q) (t : IsPass r q) where
  twice : (b : Bool) (x : Option Mark) → x ≡ cond b None (mark_of r q) → cond b None x ≡ cond b None (mark_of r q)
  twice true x e = refl
  twice false x e = e

  pub wants_after_done : want_of r (after_quit c (after_failure c q)) ≡ cond (r == c) None (want_of r q)
  wants_after_done = (one_quits (after_failure c q) c r (forgetting_keeps q c h s) s t).0

  pub marks_after_done : mark_of r (after_quit c (after_failure c q)) ≡ cond (r == c) None (mark_of r q)
  marks_after_done = (one_quits (after_failure c q) c r (forgetting_keeps q c h s) s t).1 ∙ twice (r == c) (mark_of r (after_failure c q)) (one_forgets q c r h s t)

  pub wants_after_wait : (k : Key) → want_of r (after_await k c (after_failure c q)) ≡ cond (r == c) (Some k) (want_of r q)
  wants_after_wait k = one_awaits (after_failure c q) k c r (forgetting_keeps q c h s) s t

  pub marks_after_wait : (k : Key) → mark_of r (after_await k c (after_failure c q)) ≡ cond (r == c) None (mark_of r q)
  marks_after_wait k = ap (λ (ms : List (Option Mark)). slice_index_or ms (r - 1) None) (marks_stay (after_failure c q) k c None).2 ∙ one_forgets q c r h s t

-- ---- a tick, and the rest of a turn

pub ticked : {T : Type 0} (A : Table T) (honest : Type 0) (copies : Bool) (m : Core T) (t : T) (c : ℕ) (r : Turned) (m' : Core T) → Ticks A m.table t
    → GoesOn A honest copies (record m { table = t }) c r m' → Turns A honest copies m c r m'
ticked A honest copies m t c (Done n r) m' ticks done = (done.0, done.1, done.2, done.3, record { begun = t; ticks = ticks; replied = done.4 })
ticked A honest copies m t c (Wait k) m' ticks waits = (waits.0, waits.1, waits.2, record { begun = t; ticks = ticks; awaits = waits.3 })
ticked A honest copies m t c Idle m' ticks none = absurd none
