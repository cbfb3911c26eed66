use Rattle.std.proofs.Common.{◌≡◌, ◌-◌, ◌<◌, ℕ, List, Option, Some, length, sym, ap, ◌∙◌, subst, arith, rules}
use Rattle.std.proofs.Math.ListN.{set}
use Rattle.eden_mount.specs.declared.seats.Pending.{Pending}
use Rattle.eden_mount.specs.Core.{Core, IsFree, pending_count, taken_room}
use Rattle.eden_mount.specs.Kept.{IsHeld, core_from}
use Rattle.eden_mount.specs.Places.{AllLead}
use Rattle.eden_mount.proofs.SeatLemmas.{count_taken}
use Rattle.eden_mount.proofs.Keeping.{start_keeps}
use Rattle.eden_mount.proofs.Placing.{seated}
use Rattle.eden_mount.proofs.mount.Mount.take_seat.Goals as goal

pub invariant_of-self-2 : goal.invariant_of-self-2
invariant_of-self-2 g c =
    let a = c.self.inside in
    let A = g.T.Attempts.table in
    let honest = g.W.World.honest in
    let opening = g.W.World.opening in
    let N = g.W.World.numbers in
    let pass = c.args.pass in
    let m = core_from a.table a.imports a.seats.items (g.H.History.entries a.history) (g.H.History.limit a.history) in
    let s : Pending = record { request = c.args.request; since = c.len-since.result } in
    let May : Core g.row.T.Denot → Type 0 = λ n. IsFree pass n × (taken_room n < n.limit) in
    let may : May m = subst May (sym c.self.view_is) (c.requires.free, c.requires.room) in
    let seats : length a.seats.items ≡ a.imports.passes = c.self.invariant.0.0.seats in
    let within : pass - 1 < length a.seats.items = omega (arith, seats, may.0.0.0, may.0.0.1) in
    let counted : c.args.pending ≡ pending_count a.seats.items = c.requires.pending ∙ ap (λ (n : Core g.row.T.Denot). pending_count n.seats) (sym c.self.view_is) in
    let more = count_taken a.seats.items (pass - 1) s within may.0.1 in
    let H = g.H.History in
    let h = c.reserve.new.self in
    let Held : List (Option Pending) → ℕ → Type 0 = λ xs n. IsHeld A honest opening N (H.room h) (core_from a.table a.imports xs (H.entries h) n) in
    let held : Held (set a.seats.items (pass - 1) (Some s)) (H.limit a.history) = (
      start_keeps A honest opening N m pass s (H.entries h) c.self.invariant.0.0 may.0 may.1 c.reserve.ensures.entries (search rules),
      omega (arith, more, counted, ap length c.reserve.ensures.entries, c.in-Ok.ensures),
    ) in
    let leads = g.T.Attempts.leads in (
      subst (λ xs. Held xs (H.limit h)) (sym c.occupy.ensures) (subst (Held (set a.seats.items (pass - 1) (Some s))) (sym c.reserve.ensures.limit) held),
      subst (λ (xs : List (Option Pending)). AllLead leads a.table xs a.places.items) (sym c.occupy.ensures)
          (seated leads a.table a.seats.items a.places.items (pass - 1) s may.0.1 c.self.invariant.1),
    )
