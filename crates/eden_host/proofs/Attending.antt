-- What stays of a pass through its session.
use Rattle.std.proofs.Common.{◌≡◌, ◌<◌, ℕ, List, [], ◌∷◌, ◌++◌, length, Option, Some, None, Result, Ok, Err, inl, inr, refl, sym, ap, ◌∙◌, arith}
use Rattle.std.specs.Prelude.{⊤}
use Rattle.std.specs.declared.io.Read.{Ghosts as Read}
use Rattle.std.specs.declared.io.Write.{Ghosts as Write}
use Rattle.eden_model.specs.declared.fault.CallFault.{CallFault}
use Rattle.eden_model.specs.declared.request.Request.{Request}
use Rattle.eden_model.specs.declared.reply.Reply.{Reply}
use Rattle.eden_model.specs.Numbers.{Numbers}
use Rattle.eden_model.specs.Trees.{Tree}
use Rattle.eden_shared.specs.declared.account.Terms.{Terms}
use Rattle.eden_shared.specs.Passes.{Carried}
use Rattle.eden_wire.specs.declared.request.Item.{Item}
use Rattle.eden_wire.specs.declared.request.Item.TheVariants.{Asks, Refuses, Bad}
use Rattle.eden_wire.specs.declared.session_fault.SessionFault.{SessionFault}
use Rattle.eden_wire.specs.Serving.{Session, Serves}
use Rattle.eden_host.specs.Guests.{GuestAnswers, Visit, VisitAnswers}
use Rattle.eden_host.specs.Sessions.{AreAttended, IsSeated, gathered}
use Rattle.eden_host.specs.declared.fault.HostFault.{HostFault}
use Rattle.eden_host.specs.declared.fault.HostFault.TheVariants.{Listen}

module _ (honest : Type 0) (opening : Tree) (N : Numbers) where
  -- whose pass it is
  abbrev who : Carried → Terms × ℕ
  who p = (p.terms, p.number)

  number_stays : (p p' : Carried) (q : Request) (a : Result Reply CallFault) → GuestAnswers honest opening N p q a p' → who p' ≡ who p
  number_stays p p' q (Ok reply) answers = ap who answers.1.is
  number_stays p p' q (Err fault) answers = ap who answers.1

  numbers_stay : (items : List Item) (given : List (Option (Result Reply CallFault))) (p p' : Carried) → Serves (GuestAnswers honest opening N) p items given p' → who p' ≡ who p
  numbers_stay [] [] p p' h = ap who (sym h)
  numbers_stay [] (a ∷ given) p p' h = absurd h
  numbers_stay (Asks q ∷ items) [] p p' h = absurd h
  numbers_stay (Asks q ∷ items) (None ∷ given) p p' h = numbers_stay items given p p' h
  numbers_stay (Asks q ∷ items) (Some a ∷ given) p p' h = numbers_stay items given h.0 p' h.2 ∙ number_stays p h.0 q a h.1
  numbers_stay (Refuses r ∷ items) given p p' h = numbers_stay items given p p' h
  numbers_stay (Bad ∷ items) given p p' h = numbers_stay items given p p' h

  -- a guest's session was its pass's
  pass_serves : (items : List Item) (given : List (Option (Result Reply CallFault))) (g g' : Visit) → Serves (VisitAnswers honest opening N) g items given g'
      → Serves (GuestAnswers honest opening N) g.pass items given g'.pass
  pass_serves [] [] g g' h = ap (λ (x : Visit). x.pass) h
  pass_serves [] (a ∷ given) g g' h = absurd h
  pass_serves (Asks q ∷ items) [] g g' h = absurd h
  pass_serves (Asks q ∷ items) (None ∷ given) g g' h = pass_serves items given g g' h
  pass_serves (Asks q ∷ items) (Some a ∷ given) g g' h = (h.0.pass, h.1, pass_serves items given h.0 g' h.2)
  pass_serves (Refuses r ∷ items) given g g' h = pass_serves items given g g' h
  pass_serves (Bad ∷ items) given g g' h = pass_serves items given g g' h

  module _ {I O : Type 0} (i : Read I) (o : Write O) where
    pub attended : (g g' : Visit) (reader unread : I) (writer written : O) (said : Result ⊤ SessionFault)
        → Session (VisitAnswers honest opening N) (g, g') (i.remaining reader, i.remaining unread) (o.contents writer, o.contents written) said
        → IsSeated i o honest opening N g.pass g'.pass (Some said)
    attended g g' reader unread writer written said s =
        let serves = pass_serves (s.items ++ s.last) s.given g g' s.served in
        let stays = numbers_stay (s.items ++ s.last) s.given g.pass g'.pass serves in (
          reader,
          writer,
          record {
            number = ap (λ (x : Terms × ℕ). x.1) stays;
            terms = ap (λ (x : Terms × ℕ). x.0) stays;
            unread = unread;
            written = written;
            session = record {
              read = s.read;
              items = s.items;
              last = s.last;
              given = s.given;
              rest = s.rest;
              consumed = s.consumed;
              lines = s.lines;
              served = serves;
              said = s.said;
            };
          },
        )

    -- nobody could connect any more
    pub unattended : (ps : List Carried) → 0 < length ps → AreAttended i o honest opening N ps ps (Some (Err Listen))
    unattended [] some = absurd (omega (arith, some))
    unattended (p ∷ ps) some = inr (refl, refl, refl)

    -- one pass, and those after it
    pub attended_more : (p p' : Carried) (ps ps' : List Carried) (said : Option (Result ⊤ SessionFault)) (later : Option (Result ⊤ HostFault))
        → IsSeated i o honest opening N p p' said → AreAttended i o honest opening N ps ps' later
        → AreAttended i o honest opening N (p ∷ ps) (p' ∷ ps') (gathered said later)
    attended_more p p' ps ps' said later first rest = inl (said, later, first, rest, refl)

    -- no session began
    pub none_attended : (ps : List Carried) → AreAttended i o honest opening N ps ps None
    none_attended [] = refl
    none_attended (p ∷ ps) = inl (None, None, refl, none_attended ps, refl)
