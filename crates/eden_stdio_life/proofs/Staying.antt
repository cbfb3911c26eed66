-- What a mount was opened with, through a session, and what its caller may be told.
use Rattle.std.proofs.Common.{◌≡◌, ◌≤◌, ℕ, Bool, List, [], ◌∷◌, Option, Some, None, Result, Ok, Err, inl, inr, sym, ap, ◌∙◌, subst, arith}
use Rattle.std.specs.List.{AllByRecursion}
use Rattle.eden_model.specs.declared.fault.CallFault.{CallFault}
use Rattle.eden_model.specs.declared.fault.CallFault.TheVariants as call
use Rattle.eden_model.specs.declared.fault.StartFault.{StartFault}
use Rattle.eden_model.specs.declared.fault.StartFault.TheVariants as start
use Rattle.eden_model.specs.declared.id.Id.{Id}
use Rattle.eden_model.specs.declared.request.Request.{Request}
use Rattle.eden_model.specs.declared.reply.Reply.{Reply}
use Rattle.eden_source.specs.Fetching.{Answer}
use Rattle.eden_mount.specs.Tables.{Table}
use Rattle.eden_mount.specs.Serving.{Desk, IsAtRest, Stays}
use Rattle.eden_mount.specs.Steps.{IsRefused}
use Rattle.eden_mount.proofs.CallerLemmas.{stays_same, stays_on}
use Rattle.eden_wire.specs.declared.request.Item.{Item}
use Rattle.eden_wire.specs.declared.request.Item.TheVariants.{Asks, Refuses, Bad}
use Rattle.eden_wire.specs.Serving.{Serves}
use Rattle.eden_stdio_life.specs.Calls.{CallAnswers, MayBeTold}

module _ {S : Type 0} (fetched : S → Id → Answer → S → Type 0) {T : Type 0} (A : Table T) (honest : Type 0) (copies : Bool) where
  nothing_moved : (d e : Desk T S) → e ≡ d → Stays A d.core e.core
  nothing_moved d e is = subst (λ (x : Desk T S). Stays A d.core x.core) (sym is) (stays_same A d.core)

  call_stays : (d e : Desk T S) (q : Request) (a : Result Reply CallFault) → CallAnswers fetched A honest copies d q a e → Stays A d.core e.core
  call_stays d e q (Ok reply) called = called.1.stays
  call_stays d e q (Err fault) called = nothing_moved d e called.2.1

  -- from the first line to the last
  pub serves_stay : (items : List Item) (given : List (Option (Result Reply CallFault))) (d e : Desk T S) → Serves (CallAnswers fetched A honest copies) d items given e → Stays A d.core e.core
  serves_stay [] [] d e h = nothing_moved d e (sym h)
  serves_stay [] (a ∷ given) d e h = absurd h
  serves_stay (Asks q ∷ items) [] d e h = absurd h
  serves_stay (Asks q ∷ items) (None ∷ given) d e h = serves_stay items given d e h
  serves_stay (Asks q ∷ items) (Some a ∷ given) d e h = stays_on A d.core h.0.core e.core (call_stays d h.0 q a h.1) (serves_stay items given h.0 e h.2)
  serves_stay (Refuses r ∷ items) given d e h = serves_stay items given d e h
  serves_stay (Bad ∷ items) given d e h = serves_stay items given d e h

  -- there is a first pass, which has nothing pending, and the limit is this
  pub record Stands (limit : ℕ) (d : Desk T S) : Type 0 where
    pub passes : 1 ≤ d.core.queue.passes
    pub rest : IsAtRest d.core
    pub full : d.core.limit ≡ limit

  rests : (d e : Desk T S) (q : Request) (a : Result Reply CallFault) → IsAtRest d.core → CallAnswers fetched A honest copies d q a e → IsAtRest e.core
  rests d e q (Ok reply) rest called = called.1.rest
  rests d e q (Err fault) rest called = subst (λ (x : Desk T S). IsAtRest x.core) (sym called.2.1) rest

  stands_on : (limit : ℕ) (d e : Desk T S) (q : Request) (a : Result Reply CallFault) → Stands limit d → CallAnswers fetched A honest copies d q a e → Stands limit e
  stands_on limit d e q a h called =
      let s = call_stays d e q a called in
      record { passes = subst (λ n. 1 ≤ n) (sym s.passes) h.passes; rest = rests d e q a h.rest called; full = s.limit ∙ h.full }

  refused_for : (limit : ℕ) (d : Desk T S) (fault : CallFault) (why : StartFault) → Stands limit d → fault ≡ call.Start why → IsRefused d.core 1 why → MayBeTold limit (Some (Err fault))
  refused_for limit d fault start.NoPass h is refused = absurd (refused (omega arith, h.passes))
  refused_for limit d fault start.Busy h is refused = absurd (let both : None ≡ Some refused.1 = sym h.rest.free ∙ refused.2.1 in cc both)
  refused_for limit d fault (start.HistoryFull entries) h is refused = inl (is ∙ ap (λ n. call.Start (start.HistoryFull n)) (refused.2 ∙ h.full))
  refused_for limit d fault start.Memory h is refused = inr is

  told_by : (limit : ℕ) (d e : Desk T S) (q : Request) (a : Result Reply CallFault) → Stands limit d → CallAnswers fetched A honest copies d q a e → MayBeTold limit (Some a)
  told_by limit d e q (Ok reply) h called = tt
  told_by limit d e q (Err fault) h called = refused_for limit d fault called.0 h called.1 called.2.0

  pub all_told : (limit : ℕ) (items : List Item) (given : List (Option (Result Reply CallFault))) (d e : Desk T S) → Stands limit d → Serves (CallAnswers fetched A honest copies) d items given e
      → AllByRecursion (MayBeTold limit) given
  all_told limit [] [] d e h served = tt
  all_told limit [] (a ∷ given) d e h served = absurd served
  all_told limit (Asks q ∷ items) [] d e h served = absurd served
  all_told limit (Asks q ∷ items) (None ∷ given) d e h served = (tt, all_told limit items given d e h served)
  all_told limit (Asks q ∷ items) (Some a ∷ given) d e h served = (told_by limit d served.0 q a h served.1, all_told limit items given served.0 e (stands_on limit d served.0 q a h served.1) served.2)
  all_told limit (Refuses r ∷ items) given d e h served = all_told limit items given d e h served
  all_told limit (Bad ∷ items) given d e h served = all_told limit items given d e h served
