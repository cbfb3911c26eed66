use Rattle.std.proofs.Common.{◌≡◌, ◌++◌, Bool, [], ◌∷◌, List, cond, length, append_assoc, append-nil, length-append, refl, sym, ap, ◌∙◌, subst, arith}
use Rattle.std.specs.Vec.Iter.{into_iter_items}
use Rattle.std.specs.Result.{is_ok}
use Rattle.eden_mount.specs.declared.events.Event.{Event}
use Rattle.eden_mount.specs.declared.events.Outcome.{Outcome}
use Rattle.eden_mount.specs.Core.{Core}
use Rattle.eden_mount.specs.Events.{AreHonest}
use Rattle.eden_mount.proofs.Running.{Runs, OfRuns, history_grows, all_are_answered, numbers_are_in_spans, pending_is_asked}
use Rattle.eden_mount.proofs.Blaming.{fetch_faults_are_blamed, queued_are_waited_for, taken_once}
use Rattle.eden_mount.proofs.mount.Mount.run.Goals as goal

nothing_left : {X : Type 0} (l : List X) → length l ≡ 0 → l ≡ []
nothing_left [] h = refl
nothing_left (x ∷ xs) h = absurd (omega arith)

pub loop-event-preserved : goal.loop-event-preserved
loop-event-preserved g c =
    let at = c.loop-event in
    let A = g.T.Attempts.table in
    let honest = g.W.World.honest in
    let opening = g.W.World.opening in
    let N = g.W.World.numbers in
    let e = c.in-Some.event in
    let rest = into_iter_items c.next.new.self in
    let steps : into_iter_items at.event-iterator ≡ e ∷ rest = c.in-Some.ensures.steps.0 in
    let short = ap length steps in
    let Pushes : Bool → Type 0 = λ b. c.push.new.self.items ≡ cond b (at.outcomes.items ++ c.apply.result ∷ []) at.outcomes.items in
    let pushed : c.push.new.self.items ≡ at.outcomes.items ++ c.apply.result ∷ [] = subst Pushes (ap is_ok c.unwrap.ensures) c.push.ensures.items in
    record {
      honest = λ honestly. (let P : List Event → Type 0 = λ es. AreHonest g.W.World.repository es in subst P steps (at.invariant.honest honestly)).1;
      rest = let was = at.invariant.rest in
          let gone = c.in-Some.ensures.steps.1 in
          omega (arith, was, gone, short);
      room = omega (arith, at.invariant.room, short, ap length pushed, length-append at.outcomes.items (c.apply.result ∷ []), c.push.ensures.capacity);
      run = λ os m more.
          let P : List Event → Type 0 = λ es. Runs A honest g.H.History.copies opening N at.self es (c.apply.result ∷ os) m in
          let all = at.invariant.run (c.apply.result ∷ os) m (subst P (sym steps) (c.apply.new.self, c.apply.ensures, c.holds-in-loop-event.ensures, more)) in
          let Q : List Outcome → Type 0 = λ o. Runs A honest g.H.History.copies opening N c.args.self.now c.args.events.items o m in
          subst Q (sym (append_assoc at.outcomes.items (c.apply.result ∷ []) os) ∙ ap (λ o. o ++ os) (sym pushed)) all;
    }

-- the events were made to happen, one after another
ran : (g : _) (c : goal.After-holds-2 g)
    → Runs g.T.Attempts.table g.W.World.honest g.H.History.copies g.W.World.opening g.W.World.numbers c.args.self.now c.args.events.items c.loop-event.outcomes.items c.loop-event.self
ran g c =
    let at = c.loop-event in
    let A = g.T.Attempts.table in
    let honest = g.W.World.honest in
    let opening = g.W.World.opening in
    let N = g.W.World.numbers in
    let empty : into_iter_items at.event-iterator ≡ [] = nothing_left _ (sym at.invariant.rest ∙ c.in-None.ensures.steps.0) in
    let P : List Event → Type 0 = λ es. Runs A honest g.H.History.copies opening N at.self es [] at.self in
    let all = at.invariant.run [] at.self (subst P (sym empty) refl) in
    let Q : List Outcome → Type 0 = λ o. Runs A honest g.H.History.copies opening N c.args.self.now c.args.events.items o at.self in
    subst Q (append-nil at.outcomes.items) all

module _ (g : _) (c : goal.After-holds-2 g) where
  -- what holds of every run holds of this one
  of_this : (P : Core g.row.T.Denot → List Event → List Outcome → Core g.row.T.Denot → Type 0) → OfRuns g.T.Attempts.table g.W.World.honest g.H.History.copies g.W.World.opening g.W.World.numbers P
      → P c.args.self.now c.args.events.items c.loop-event.outcomes.items c.loop-event.self
  of_this P law = law c.args.self.now c.loop-event.self c.args.events.items c.loop-event.outcomes.items c.holds.ensures (ran g c)

pub returns-clause-history : goal.returns-clause-history
returns-clause-history g c = of_this g c _ (history_grows g.T.Attempts.table g.W.World.honest g.H.History.copies g.W.World.opening g.W.World.numbers)

pub returns-clause-answered : goal.returns-clause-answered
returns-clause-answered g c = of_this g c _ (all_are_answered g.T.Attempts.table g.W.World.honest g.H.History.copies g.W.World.opening g.W.World.numbers)

pub returns-clause-numbers : goal.returns-clause-numbers
returns-clause-numbers g c = of_this g c _ (numbers_are_in_spans g.T.Attempts.table g.W.World.honest g.H.History.copies g.W.World.opening g.W.World.numbers)

pub returns-clause-pending : goal.returns-clause-pending
returns-clause-pending g c = of_this g c _ (pending_is_asked g.T.Attempts.table g.W.World.honest g.H.History.copies g.W.World.opening g.W.World.numbers)

pub returns-clause-blamed : goal.returns-clause-blamed
returns-clause-blamed g c = of_this g c _ (fetch_faults_are_blamed g.T.Attempts.table g.W.World.honest g.H.History.copies g.W.World.opening g.W.World.numbers)

pub returns-clause-queued : goal.returns-clause-queued
returns-clause-queued g c = of_this g c _ (queued_are_waited_for g.T.Attempts.table g.W.World.honest g.H.History.copies g.W.World.opening g.W.World.numbers)

pub returns-clause-taken : goal.returns-clause-taken
returns-clause-taken g c = of_this g c _ (taken_once g.T.Attempts.table g.W.World.honest g.H.History.copies g.W.World.opening g.W.World.numbers)
