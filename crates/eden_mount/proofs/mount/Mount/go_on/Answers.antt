use Rattle.std.proofs.Common.{◌≡◌, ◌+◌, ◌-◌, ◌++◌, ℕ, [], ◌∷◌, List, Option, None, IfSome, length, length-append, get_or, refl, sym, ap, ◌∙◌, subst, arith}
use Rattle.std.proofs.Math.ListN.{set}
use Rattle.std.specs.Option.{is_some, IsSome}
use Rattle.eden_model.specs.declared.request.Request.{Request}
use Rattle.eden_model.specs.Histories.{entry}
use Rattle.eden_import.specs.Queue.{Queue, Mark, IsPass, mark_of, after_await, after_quit, after_failure}
use Rattle.eden_mount.specs.declared.seats.Pending.{Pending}
use Rattle.eden_mount.specs.declared.events.Turned.TheVariants.{Done}
use Rattle.eden_mount.specs.Core.{Core, Pends, after_done, pending_count}
use Rattle.eden_mount.specs.Kept.{IsMount, core_from}
use Rattle.eden_mount.specs.Places.{kept_at, AllLead}
use Rattle.eden_mount.specs.Replying.{Awaits}
use Rattle.eden_mount.specs.Steps.{GoesOn}
use Rattle.eden_mount.proofs.SeatLemmas.{asked_there, count_freed}
use Rattle.eden_mount.proofs.Keeping.{AnswersAreBacked, pass_of, turn_keeps, wait_keeps}
use Rattle.eden_mount.proofs.Placing.{recalled, noted, vacated}
use Rattle.eden_mount.proofs.Telling.{told_of_found}
use Rattle.eden_mount.proofs.mount.Mount.go_on.Goals as goal

pub failure-mark-requires : goal.failure-mark-requires
failure-mark-requires g c =
    let a = c.self.inside in let pass = c.args.pass in let s = c.requires.0 in
    let m = core_from a.table a.imports a.seats.items (g.H.History.entries a.history) (g.H.History.limit a.history) in
    let pends : Pends pass s m = (let P : Core g.row.T.Denot → Type 0 = λ n. Pends pass s n in subst P (sym c.self.view_is) c.requires.1) in
    pass_of g.T.Attempts.table g.W.World.honest g.W.World.opening g.W.World.numbers m pass s c.self.invariant.0.0 pends

pub request_at-request-requires : goal.request_at-request-requires
request_at-request-requires g c =
    let a = c.self.inside in let pass = c.args.pass in let s = c.requires.0 in
    let m = core_from a.table a.imports a.seats.items (g.H.History.entries a.history) (g.H.History.limit a.history) in
    let pends : Pends pass s m = (let P : Core g.row.T.Denot → Type 0 = λ n. Pends pass s n in subst P (sym c.self.view_is) c.requires.1) in
    let P : List (Option Pending) → Type 0 = λ xs. IsSome (get_or xs (pass - 1) None) in
    subst P (sym c.as_slice.ensures.value) (ap is_some pends.1)

pub resume-requires : goal.resume-requires
resume-requires g c =
    let a = c.self.inside in let pass = c.args.pass in let s = c.requires.0 in
    let m = core_from a.table a.imports a.seats.items (g.H.History.entries a.history) (g.H.History.limit a.history) in
    let pends : Pends pass s m = (let P : Core g.row.T.Denot → Type 0 = λ n. Pends pass s n in subst P (sym c.self.view_is) c.requires.1) in
    let asked : c.request_at-request.result.now ≡ s.request = asked_there a.seats.items c.as_slice.result.now (pass - 1) s _ c.as_slice.ensures.value pends.1 c.request_at-request.ensures in
    let leads = g.T.Attempts.leads in
    subst (λ (q : Request). IfSome (kept_at (pass - 1) a.places.items) (leads a.table q)) (sym asked)
    (recalled leads a.table a.seats.items a.places.items (pass - 1) s c.self.invariant.1 pends.1)

pub vacate-request-requires : goal.vacate-request-requires
vacate-request-requires g c =
    let a = c.self.inside in let pass = c.args.pass in let s = c.requires.0 in
    let m = core_from a.table a.imports a.seats.items (g.H.History.entries a.history) (g.H.History.limit a.history) in
    let pends : Pends pass s m = (let P : Core g.row.T.Denot → Type 0 = λ n. Pends pass s n in subst P (sym c.self.view_is) c.requires.1) in
    ap is_some pends.1

pub await_key-requires : goal.await_key-requires
await_key-requires g c =
    let a = c.self.inside in let pass = c.args.pass in let s = c.requires.0 in
    let m = core_from a.table a.imports a.seats.items (g.H.History.entries a.history) (g.H.History.limit a.history) in
    let pends : Pends pass s m = (let P : Core g.row.T.Denot → Type 0 = λ n. Pends pass s n in subst P (sym c.self.view_is) c.requires.1) in
    let P : Queue → Type 0 = λ q. IsPass pass q in
    subst P (sym c.failure-mark.ensures.step) (pass_of g.T.Attempts.table g.W.World.honest g.W.World.opening g.W.World.numbers m pass s c.self.invariant.0.0 pends)

pub quit-requires : goal.quit-requires
quit-requires g c =
    let a = c.self.inside in let pass = c.args.pass in let s = c.requires.0 in
    let m = core_from a.table a.imports a.seats.items (g.H.History.entries a.history) (g.H.History.limit a.history) in
    let pends : Pends pass s m = (let P : Core g.row.T.Denot → Type 0 = λ n. Pends pass s n in subst P (sym c.self.view_is) c.requires.1) in
    let P : Queue → Type 0 = λ q. IsPass pass q in
    subst P (sym c.failure-mark.ensures.step) (pass_of g.T.Attempts.table g.W.World.honest g.W.World.opening g.W.World.numbers m pass s c.self.invariant.0.0 pends)

pub tell-told-requires : goal.tell-told-requires
tell-told-requires g c =
    let a = c.self.inside in let pass = c.args.pass in let s = c.requires.0 in
    let m = core_from a.table a.imports a.seats.items (g.H.History.entries a.history) (g.H.History.limit a.history) in
    let pends : Pends pass s m = (let P : Core g.row.T.Denot → Type 0 = λ n. Pends pass s n in subst P (sym c.self.view_is) c.requires.1) in
    omega (arith, count_freed a.seats.items (pass - 1) s pends.1, c.self.invariant.0.1)

pub invariant_of-self : goal.invariant_of-self
invariant_of-self g c =
    let a = c.self.inside in let pass = c.args.pass in let s = c.requires.0 in
    let A = g.T.Attempts.table in
    let honest = g.W.World.honest in
    let m = core_from a.table a.imports a.seats.items (g.H.History.entries a.history) (g.H.History.limit a.history) in
    let pends : Pends pass s m = (let P : Core g.row.T.Denot → Type 0 = λ n. Pends pass s n in subst P (sym c.self.view_is) c.requires.1) in
    let asked : c.request_at-request.result.now ≡ s.request = asked_there a.seats.items c.as_slice.result.now (pass - 1) s _ c.as_slice.ensures.value pends.1 c.request_at-request.ensures in
    let k = c.in-Waits.key in
    let u = c.resume.new.table in
    let queue : c.await_key.new.self ≡ after_await k pass (after_failure pass a.imports) = c.await_key.ensures.step ∙ ap (after_await k pass) c.failure-mark.ensures.step in
    let P : Option Mark → Type 0 = λ mark. Awaits A honest a.table c.request_at-request.result.now mark k u in
    let Q : Request → Type 0 = λ q. Awaits A honest a.table q (mark_of pass a.imports) k u in
    let qs = c.resume.new.places.items in
    let leads = g.T.Attempts.leads in (
      (
        wait_keeps A honest g.W.World.opening g.W.World.numbers c.backing_laws.ensures.gains_are_backed m pass s k u c.await_key.new.self c.self.invariant.0.0 pends c.await_key.ensures.kept queue
            (subst Q asked (subst P c.failure-mark.ensures.answer c.in-Waits.ensures.settles)),
        c.self.invariant.0.1,
      ),
      noted leads a.table u a.seats.items a.places.items qs (pass - 1) c.in-Waits.ensures.places c.self.invariant.1 c.in-Waits.ensures.elsewhere s pends.1
          (subst (λ (q : Request). IfSome (kept_at (pass - 1) qs) (leads u q)) asked c.in-Waits.ensures.kept),
    )

pub invariant_of-self-in-Found : goal.invariant_of-self-in-Found
invariant_of-self-in-Found g c =
    let a = c.self.inside in let pass = c.args.pass in let s = c.requires.0 in
    let A = g.T.Attempts.table in
    let H = g.H.History in
    let honest = g.W.World.honest in
    let was = H.entries a.history in
    let m = core_from a.table a.imports a.seats.items was (H.limit a.history) in
    let pends : Pends pass s m = (let P : Core g.row.T.Denot → Type 0 = λ n. Pends pass s n in subst P (sym c.self.view_is) c.requires.1) in
    let asked : c.request_at-request.result.now ≡ s.request = asked_there a.seats.items c.as_slice.result.now (pass - 1) s _ c.as_slice.ensures.value pends.1 c.request_at-request.ensures in
    let r = c.tell-told.result in
    let u = c.resume.new.table in
    let es = H.entries c.tell-told.new.self in
    let queue : c.quit.new.self ≡ after_quit pass (after_failure pass a.imports) = c.quit.ensures.step ∙ ap (after_quit pass) c.failure-mark.ensures.step in
    let left : c.vacate-request.result ≡ s.request = asked_there a.seats.items a.seats.items (pass - 1) s _ refl pends.1 c.vacate-request.ensures.was in
    let grown : es ≡ was ++ entry pass s.request r ∷ [] = c.tell-told.ensures.entries ∙ ap (λ q. was ++ entry pass q r ∷ []) left in
    let seats : c.vacate-request.new.seats.items ≡ set a.seats.items (pass - 1) None = c.vacate-request.ensures.seats in
    let settled = c.in-Found.ensures.settles in
    let replied = told_of_found A honest a.table s.request (mark_of pass a.imports) H.copies c.in-Found.found r u asked c.failure-mark.ensures.answer settled c.tell-told.ensures.told in
    let laws : AnswersAreBacked = record { gained = c.backing_laws.ensures.gains_are_backed; allowed = c.backing_laws.ensures.answer_is_allowed; backed = c.backing_laws.ensures.answer_is_backed } in
    let kept = turn_keeps A honest g.W.World.opening g.W.World.numbers laws H.copies m pass s r u c.quit.new.self es c.self.invariant.0.0 pends c.quit.ensures.kept queue grown replied in
    let S : List (Option Pending) → ℕ → Type 0 = λ xs n. IsMount A honest g.W.World.opening g.W.World.numbers (core_from u c.quit.new.self xs es n) in
    let freed = count_freed a.seats.items (pass - 1) s pends.1 in
    let longer = length-append was (entry pass s.request r ∷ []) in
    let qs = c.resume.new.places.items in
    let leads = g.T.Attempts.leads in (
      (
        subst (S c.vacate-request.new.seats.items) (sym c.tell-told.ensures.limit) (subst (λ xs. S xs (H.limit a.history)) (sym seats) kept),
        omega (arith, ap pending_count seats, freed, ap length grown, longer, c.tell-told.ensures.room, c.self.invariant.0.1),
      ),
      subst (λ (xs : List (Option Pending)). AllLead leads u xs qs) (sym seats)
          (vacated leads a.table u a.seats.items a.places.items qs (pass - 1) c.in-Found.ensures.places c.self.invariant.1 c.in-Found.ensures.elsewhere c.in-Found.ensures.kept),
    )

pub returns-in-Found : goal.returns-in-Found
returns-in-Found g c =
    let a = c.self.inside in let pass = c.args.pass in let s = c.requires.0 in
    let A = g.T.Attempts.table in
    let H = g.H.History in
    let honest = g.W.World.honest in
    let was = H.entries a.history in
    let m = core_from a.table a.imports a.seats.items was (H.limit a.history) in
    let pends : Pends pass s m = (let P : Core g.row.T.Denot → Type 0 = λ n. Pends pass s n in subst P (sym c.self.view_is) c.requires.1) in
    let asked : c.request_at-request.result.now ≡ s.request = asked_there a.seats.items c.as_slice.result.now (pass - 1) s _ c.as_slice.ensures.value pends.1 c.request_at-request.ensures in
    let left : c.vacate-request.result ≡ s.request = asked_there a.seats.items a.seats.items (pass - 1) s _ refl pends.1 c.vacate-request.ensures.was in
    let r = c.tell-told.result in
    let u = c.resume.new.table in
    let h = c.tell-told.new.self in
    let grown : H.entries h ≡ was ++ entry pass s.request r ∷ [] = c.tell-told.ensures.entries ∙ ap (λ q. was ++ entry pass q r ∷ []) left in
    let queue : c.quit.new.self ≡ after_quit pass (after_failure pass a.imports) = c.quit.ensures.step ∙ ap (after_quit pass) c.failure-mark.ensures.step in
    let seats : c.vacate-request.new.seats.items ≡ set a.seats.items (pass - 1) None = c.vacate-request.ensures.seats in
    let limit : H.limit h ≡ H.limit a.history = c.tell-told.ensures.limit in
    let new : Core g.row.T.Denot = core_from u c.quit.new.self c.vacate-request.new.seats.items (H.entries h) (H.limit h) in
    let is : new ≡ after_done pass s.request r u m = λ i. core_from u (queue i) (seats i) (grown i) (limit i) in
    let number : c.len.result ≡ length was + 1 = c.len.ensures ∙ ap length grown ∙ length-append was (entry pass s.request r ∷ []) in
    let settled = c.in-Found.ensures.settles in
    let replied = told_of_found A honest a.table s.request (mark_of pass a.imports) H.copies c.in-Found.found r u asked c.failure-mark.ensures.answer settled c.tell-told.ensures.told in
    let N : Core g.row.T.Denot → Type 0 = λ n. GoesOn A honest H.copies n pass (Done c.len.result r) new in
    subst N c.self.view_is (s, pends, number, is, replied)
