use Rattle.std.proofs.Common.{◌≡◌, ◌-◌, ◌<◌, ◌+◌, ◌++◌, ℕ, List, [], ◌∷◌, Option, Some, IfSome, Ok, length, length-append, refl, sym, ap, ◌∙◌, subst, arith}
use Rattle.std.proofs.Math.ListN.{set}
use Rattle.eden_model.specs.Histories.{entry}
use Rattle.eden_import.specs.Queue.{Mark, mark_of, after_await, after_quit, after_failure}
use Rattle.eden_mount.specs.declared.seats.Pending.{Pending}
use Rattle.eden_mount.specs.declared.events.Turned.TheVariants.{Done, Wait}
use Rattle.eden_mount.specs.Core.{Core, IsFree, pending_count, taken_room, pending_from, after_start, after_done, after_wait}
use Rattle.eden_mount.specs.Kept.{IsMount, IsHeld, core_from}
use Rattle.eden_mount.specs.Places.{AllLead}
use Rattle.eden_mount.specs.Replying.{Awaits}
use Rattle.eden_mount.specs.Steps.{Asks}
use Rattle.eden_mount.proofs.AtOnce.{set_back, begun, begun_pends, begun_keeps, inside}
use Rattle.eden_mount.proofs.Keeping.{AnswersAreBacked, turn_keeps, wait_keeps}
use Rattle.eden_mount.proofs.Placing.{retabled, seated, unkept, noted, vacated}
use Rattle.eden_mount.proofs.SeatLemmas.{count_taken}
use Rattle.eden_mount.proofs.Telling.{told_of_found}
use Rattle.eden_mount.proofs.TurnLemmas.{ticked}
use Rattle.eden_mount.proofs.mount.Mount.try_at_once.Goals as goal

pub resume-requires : goal.resume-requires
resume-requires g c =
    let a = c.self.inside in let pass = c.args.pass in
    let was = g.H.History.entries a.history in
    let m = core_from a.table a.imports a.seats.items was (g.H.History.limit a.history) in
    let May : Core g.row.T.Denot → Type 0 = λ n. IsFree pass n × (taken_room n < n.limit) in
    let may : May m = subst May (sym c.self.view_is) (c.requires.free, c.requires.room) in
    let leads = g.T.Attempts.leads in
    let none = unkept leads a.table a.seats.items a.places.items (pass - 1) may.0.1 c.self.invariant.1 in
    subst (λ (o : Option g.row.T-Place.Denot). IfSome o (leads c.tick.new.self c.args.request)) (sym none) tt

pub invariant_of-self-in-Waits : goal.invariant_of-self-in-Waits
invariant_of-self-in-Waits g c =
    let a = c.self.inside in let pass = c.args.pass in
    let was = g.H.History.entries a.history in
    let m = core_from a.table a.imports a.seats.items was (g.H.History.limit a.history) in
    let May : Core g.row.T.Denot → Type 0 = λ n. IsFree pass n × (taken_room n < n.limit) in
    let may : May m = subst May (sym c.self.view_is) (c.requires.free, c.requires.room) in
    let A = g.T.Attempts.table in
    let H = g.H.History in
    let honest = g.W.World.honest in
    let opening = g.W.World.opening in
    let N = g.W.World.numbers in
    let request = c.args.request in
    let s = pending_from request m in
    let t = c.tick.new.self in
    let u = c.resume.new.table in
    let middle = H.entries c.reserve.new.self in
    let qs = c.resume.new.places.items in
    let leads = g.T.Attempts.leads in
    let held = c.self.invariant.0.0 in
    let k = c.in-Waits.key in
    let queue : c.await_key.new.self ≡ after_await k pass (after_failure pass a.imports) = c.await_key.ensures.step ∙ ap (after_await k pass) c.failure-failed.ensures.step in
    let since : c.len-since.result ≡ length was = c.len-since.ensures ∙ ap length c.reserve.ensures.entries in
    let seats : c.occupy.new.seats.items ≡ set a.seats.items (pass - 1) (Some s) = c.occupy.ensures
    ∙ ap (λ (n : ℕ). set a.seats.items (pass - 1) (Some (record { request = request; since = n }))) since in
    let P : Option Mark → Type 0 = λ mark. Awaits A honest t request mark k u in
    let awaits : Awaits A honest t request (mark_of pass a.imports) k u = subst P c.failure-failed.ensures.answer c.in-Waits.ensures.settles in
    let started = begun_keeps A honest opening N m pass request middle t held may.0 may.1 c.reserve.ensures.entries c.tick.ensures.ticks in
    let pends = begun_pends A honest opening N m pass request middle t held may.0 in
    let kept = wait_keeps A honest opening N c.backing_laws.ensures.gains_are_backed (begun A honest opening N m pass request middle t held may.0) pass s k u c.await_key.new.self started pends
    c.await_key.ensures.kept queue awaits in
    let counted : c.args.pending ≡ pending_count a.seats.items = c.requires.pending ∙ ap (λ (n : Core g.row.T.Denot). pending_count n.seats) (sym c.self.view_is) in
    let more = count_taken a.seats.items (pass - 1) s (inside A honest opening N m pass request middle t held may.0) may.0.1 in
    let Held : List (Option Pending) → ℕ → Type 0 = λ xs n. IsHeld A honest opening N (H.room c.reserve.new.self) (core_from u c.await_key.new.self xs middle n) in
    let all : Held (set a.seats.items (pass - 1) (Some s)) (H.limit a.history) = (kept, omega (arith, more, counted, ap length c.reserve.ensures.entries, c.in-Ok.ensures)) in
    let lead = seated leads t a.seats.items a.places.items (pass - 1) s may.0.1 (retabled leads a.table t a.seats.items a.places.items c.tick.ensures.places c.self.invariant.1) in (
      subst (λ xs. Held xs (H.limit c.reserve.new.self)) (sym seats) (subst (Held (set a.seats.items (pass - 1) (Some s))) (sym c.reserve.ensures.limit) all),
      subst (λ (xs : List (Option Pending)). AllLead leads u xs qs) (sym seats)
          (noted leads t u (set a.seats.items (pass - 1) (Some s)) a.places.items qs (pass - 1) c.in-Waits.ensures.places lead c.in-Waits.ensures.elsewhere s pends.1 c.in-Waits.ensures.kept),
    )

pub invariant_of-self-in-Found : goal.invariant_of-self-in-Found
invariant_of-self-in-Found g c =
    let a = c.self.inside in let pass = c.args.pass in
    let was = g.H.History.entries a.history in
    let m = core_from a.table a.imports a.seats.items was (g.H.History.limit a.history) in
    let May : Core g.row.T.Denot → Type 0 = λ n. IsFree pass n × (taken_room n < n.limit) in
    let may : May m = subst May (sym c.self.view_is) (c.requires.free, c.requires.room) in
    let A = g.T.Attempts.table in
    let H = g.H.History in
    let honest = g.W.World.honest in
    let opening = g.W.World.opening in
    let N = g.W.World.numbers in
    let request = c.args.request in
    let s = pending_from request m in
    let t = c.tick.new.self in
    let u = c.resume.new.table in
    let middle = H.entries c.reserve.new.self in
    let qs = c.resume.new.places.items in
    let leads = g.T.Attempts.leads in
    let held = c.self.invariant.0.0 in
    let r = c.tell-reply.result in
    let h = c.tell-reply.new.self in
    let queue : c.quit.new.self ≡ after_quit pass (after_failure pass a.imports) = c.quit.ensures.step ∙ ap (after_quit pass) c.failure-failed.ensures.step in
    let replied = told_of_found A honest t request (mark_of pass a.imports) H.copies c.in-Found.found r u refl c.failure-failed.ensures.answer c.in-Found.ensures.settles c.tell-reply.ensures.told in
    let back = set_back a.seats.items (pass - 1) (Some s) may.0.1 in
    let es = H.entries h in
    let started = begun_keeps A honest opening N m pass request middle t held may.0 may.1 c.reserve.ensures.entries c.tick.ensures.ticks in
    let pends = begun_pends A honest opening N m pass request middle t held may.0 in
    let laws : AnswersAreBacked = record { gained = c.backing_laws.ensures.gains_are_backed; allowed = c.backing_laws.ensures.answer_is_allowed; backed = c.backing_laws.ensures.answer_is_backed } in
    let kept = turn_keeps A honest opening N laws H.copies (begun A honest opening N m pass request middle t held may.0) pass s r u c.quit.new.self es started pends c.quit.ensures.kept queue
    c.tell-reply.ensures.entries replied in
    let S : List (Option Pending) → ℕ → Type 0 = λ xs n. IsMount A honest opening N (core_from u c.quit.new.self xs es n) in
    let counted : c.args.pending ≡ pending_count a.seats.items = c.requires.pending ∙ ap (λ (n : Core g.row.T.Denot). pending_count n.seats) (sym c.self.view_is) in
    let longer = length-append middle (entry pass request r ∷ []) in
    let lead = seated leads t a.seats.items a.places.items (pass - 1) s may.0.1 (retabled leads a.table t a.seats.items a.places.items c.tick.ensures.places c.self.invariant.1) in
    let limit : H.limit h ≡ H.limit a.history = c.tell-reply.ensures.limit ∙ c.reserve.ensures.limit in (
      (
        subst (S a.seats.items) (sym limit) (subst (λ xs. S xs (H.limit a.history)) back kept),
        omega (arith, counted, ap length c.tell-reply.ensures.entries, longer, ap length c.reserve.ensures.entries, c.tell-reply.ensures.room, c.in-Ok.ensures),
      ),
      subst (λ (xs : List (Option Pending)). AllLead leads u xs qs) back
          (vacated leads t u (set a.seats.items (pass - 1) (Some s)) a.places.items qs (pass - 1) c.in-Found.ensures.places lead c.in-Found.ensures.elsewhere c.in-Found.ensures.kept),
    )

pub returns-in-Waits : goal.returns-in-Waits
returns-in-Waits g c =
    let a = c.self.inside in let pass = c.args.pass in
    let was = g.H.History.entries a.history in
    let m = core_from a.table a.imports a.seats.items was (g.H.History.limit a.history) in
    let May : Core g.row.T.Denot → Type 0 = λ n. IsFree pass n × (taken_room n < n.limit) in
    let may : May m = subst May (sym c.self.view_is) (c.requires.free, c.requires.room) in
    let A = g.T.Attempts.table in
    let H = g.H.History in
    let honest = g.W.World.honest in
    let opening = g.W.World.opening in
    let N = g.W.World.numbers in
    let request = c.args.request in
    let s = pending_from request m in
    let t = c.tick.new.self in
    let u = c.resume.new.table in
    let middle = H.entries c.reserve.new.self in
    let qs = c.resume.new.places.items in
    let leads = g.T.Attempts.leads in
    let held = c.self.invariant.0.0 in
    let k = c.in-Waits.key in
    let queue : c.await_key.new.self ≡ after_await k pass (after_failure pass a.imports) = c.await_key.ensures.step ∙ ap (after_await k pass) c.failure-failed.ensures.step in
    let since : c.len-since.result ≡ length was = c.len-since.ensures ∙ ap length c.reserve.ensures.entries in
    let seats : c.occupy.new.seats.items ≡ set a.seats.items (pass - 1) (Some s) = c.occupy.ensures
    ∙ ap (λ (n : ℕ). set a.seats.items (pass - 1) (Some (record { request = request; since = n }))) since in
    let P : Option Mark → Type 0 = λ mark. Awaits A honest t request mark k u in
    let awaits : Awaits A honest t request (mark_of pass a.imports) k u = subst P c.failure-failed.ensures.answer c.in-Waits.ensures.settles in
    let pends = begun_pends A honest opening N m pass request was t held may.0 in
    let limit : H.limit c.reserve.new.self ≡ H.limit a.history = c.reserve.ensures.limit in
    let new : Core g.row.T.Denot = core_from u c.await_key.new.self c.occupy.new.seats.items middle (H.limit c.reserve.new.self) in
    let is : new ≡ after_wait pass k u (after_start pass request m) = λ i. core_from u (queue i) (seats i) (c.reserve.ensures.entries i) (limit i) in
    let turn = ticked A honest H.copies (after_start pass request m) t pass (Wait k) new c.tick.ensures.ticks (s, pends, is, awaits) in
    let M : Core g.row.T.Denot → Type 0 = λ n. Asks A honest H.copies n pass request (Ok (Wait k)) new in
    subst M c.self.view_is (may.0, may.1, turn)

pub returns-in-Found : goal.returns-in-Found
returns-in-Found g c =
    let a = c.self.inside in let pass = c.args.pass in
    let was = g.H.History.entries a.history in
    let m = core_from a.table a.imports a.seats.items was (g.H.History.limit a.history) in
    let May : Core g.row.T.Denot → Type 0 = λ n. IsFree pass n × (taken_room n < n.limit) in
    let may : May m = subst May (sym c.self.view_is) (c.requires.free, c.requires.room) in
    let A = g.T.Attempts.table in
    let H = g.H.History in
    let honest = g.W.World.honest in
    let opening = g.W.World.opening in
    let N = g.W.World.numbers in
    let request = c.args.request in
    let s = pending_from request m in
    let t = c.tick.new.self in
    let u = c.resume.new.table in
    let middle = H.entries c.reserve.new.self in
    let qs = c.resume.new.places.items in
    let leads = g.T.Attempts.leads in
    let held = c.self.invariant.0.0 in
    let r = c.tell-reply.result in
    let h = c.tell-reply.new.self in
    let queue : c.quit.new.self ≡ after_quit pass (after_failure pass a.imports) = c.quit.ensures.step ∙ ap (after_quit pass) c.failure-failed.ensures.step in
    let replied = told_of_found A honest t request (mark_of pass a.imports) H.copies c.in-Found.found r u refl c.failure-failed.ensures.answer c.in-Found.ensures.settles c.tell-reply.ensures.told in
    let back = set_back a.seats.items (pass - 1) (Some s) may.0.1 in
    let pends = begun_pends A honest opening N m pass request was t held may.0 in
    let grown : H.entries h ≡ was ++ entry pass request r ∷ [] = c.tell-reply.ensures.entries ∙ ap (λ es. es ++ entry pass request r ∷ []) c.reserve.ensures.entries in
    let limit : H.limit h ≡ H.limit a.history = c.tell-reply.ensures.limit ∙ c.reserve.ensures.limit in
    let new : Core g.row.T.Denot = core_from u c.quit.new.self a.seats.items (H.entries h) (H.limit h) in
    let is : new ≡ after_done pass request r u (after_start pass request m) = λ i. core_from u (queue i) (sym back i) (grown i) (limit i) in
    let number : c.len.result ≡ length was + 1 = c.len.ensures ∙ ap length grown ∙ length-append was (entry pass request r ∷ []) in
    let turn = ticked A honest H.copies (after_start pass request m) t pass (Done c.len.result r) new c.tick.ensures.ticks (s, pends, number, is, replied) in
    let M : Core g.row.T.Denot → Type 0 = λ n. Asks A honest H.copies n pass request (Ok (Done c.len.result r)) new in
    subst M c.self.view_is (may.0, may.1, turn)
