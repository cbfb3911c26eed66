-- A life as it is seen from outside, by what went on inside.
use Rattle.std.proofs.Common.{◌≡◌, ◌++◌, ◌∙◌, ℕ, Bool, List, [], ◌∷◌, Option, Some, None, Result, Ok, Err, inl, inr, sym, ap, subst}
use Rattle.std.specs.Prelude.{⊤}
use Rattle.std.specs.List.{AllByRecursion}
use Rattle.eden_model.specs.declared.fault.CallFault.{CallFault}
use Rattle.eden_model.specs.declared.entry.Entry.{Entry}
use Rattle.eden_model.specs.declared.id.Id.{Id}
use Rattle.eden_model.specs.declared.reply.Reply.{Reply}
use Rattle.eden_model.specs.declared.request.Request.{Request}
use Rattle.eden_model.specs.declared.world.World.{Ghosts}
use Rattle.eden_model.specs.Histories.{entry, replay}
use Rattle.eden_model.specs.Numbers.{replay_numbers}
use Rattle.eden_source.specs.Fetching.{Answer}
use Rattle.eden_overlay.specs.declared.files.Files.{Ghosts as Files}
use Rattle.eden_mount.specs.Core.{Core}
use Rattle.eden_mount.specs.Serving.{Desk}
use Rattle.eden_mount.specs.Settings.{Settings}
use Rattle.eden_mount.specs.Tables.{Table}
use Rattle.eden_checkout.specs.Attempted.{attempted}
use Rattle.eden_checkout.specs.Checkouts.{Checkout}
use Rattle.eden_wire.specs.declared.request.Item.{Item}
use Rattle.eden_wire.specs.declared.request.Item.TheVariants.{Asks, Refuses, Bad}
use Rattle.eden_wire.specs.declared.session_fault.SessionFault.{SessionFault}
use Rattle.eden_wire.specs.Serving.{Known, Serves, Session}
use Rattle.eden_stdio_life.specs.declared.fault.LifeFault.{LifeFault}
use Rattle.eden_stdio_life.specs.declared.fault.LifeFault.TheVariants as life
use Rattle.eden_stdio_life.specs.declared.life.Backing.{Backing}
use Rattle.eden_stdio_life.specs.declared.life.Ending.{Ending}
use Rattle.eden_stdio_life.specs.declared.opening.Base.{Base}
use Rattle.eden_stdio_life.specs.Calls.{CallAnswers, MayBeTold}
use Rattle.eden_stdio_life.specs.Inside.{IsLivedInside, IsUnservedInside, LivesInside, LivesInsideBy}
use Rattle.eden_stdio_life.proofs.CallerLemmas.{close_seen}
use Rattle.eden_stdio_life.specs.Lives.{IsLived, IsUnserved, Lives, LivesBy}
use Rattle.eden_stdio_life.specs.Ledgers.{Ledger, IsEntered, LedgerAnswers, ledger}

module _ {S : Type 0} (fetched : S → Id → Answer → S → Type 0) {T : Type 0} (A : Table T) (honest : Type 0) (copies : Bool) (limit : ℕ) where
  abbrev pub ledger_of : Desk T S → Ledger S
  ledger_of d = ledger d.core.history d.source

  call_seen : (d e : Desk T S) (q : Request) (a : Result Reply CallFault) → CallAnswers fetched A honest copies d q a e → MayBeTold limit (Some a)
      → LedgerAnswers fetched limit (ledger_of d) q a (ledger_of e)
  call_seen d e q (Ok r) lent told =
      subst (λ (x : Reply). IsEntered fetched limit (ledger_of d) q x (ledger_of e)) (sym lent.0) (record {
        asks = lent.1.asks;
        asked = lent.1.asked;
        few = lent.1.few;
        history = lent.1.history;
        failed = lent.1.failed;
      })
  call_seen d e q (Err why) called told = (told, ap ledger_of called.2.1)

  -- from the first line to the last
  pub serves_seen : (items : List Item) (given : List (Option (Result Reply CallFault))) (d e : Desk T S) → Serves (CallAnswers fetched A honest copies) d items given e
      → AllByRecursion (MayBeTold limit) given → Serves (LedgerAnswers fetched limit) (ledger_of d) items given (ledger_of e)
  serves_seen [] [] d e h told = ap ledger_of h
  serves_seen [] (a ∷ given) d e h told = absurd h
  serves_seen (Asks q ∷ items) [] d e h told = absurd h
  serves_seen (Asks q ∷ items) (None ∷ given) d e h told = serves_seen items given d e h told.1
  serves_seen (Asks q ∷ items) (Some a ∷ given) d e h told = (ledger_of h.0, call_seen d h.0 q a h.1 told.0, serves_seen items given h.0 e h.2 told.1)
  serves_seen (Refuses r ∷ items) given d e h told = serves_seen items given d e h told
  serves_seen (Bad ∷ items) given d e h told = serves_seen items given d e h told

  pub session_seen : (d e : Desk T S) (input output : Known × Known) (said : Result ⊤ SessionFault) (s : Session (CallAnswers fetched A honest copies) (d, e) input output said)
      → AllByRecursion (MayBeTold limit) s.given → Session (LedgerAnswers fetched limit) (ledger_of d, ledger_of e) input output said
  session_seen d e input output said s told = record {
    read = s.read;
    items = s.items;
    last = s.last;
    given = s.given;
    rest = s.rest;
    consumed = s.consumed;
    lines = s.lines;
    served = serves_seen (s.items ++ s.last) s.given d e s.served told;
    said = s.said;
  }

module _ {W F : Type 0} (w : Ghosts W) (f : Files F W) where
  module _ {S : Type 0} (fetched : S → Id → Answer → S → Type 0) (copies : Bool) (limit : ℕ) (base : Base) (settings : Settings) (backing : Backing F S) (input output : Known × Known)
      (left : Ending F S) where
    lived_seen : IsLivedInside w f fetched copies limit base settings backing input output left → IsLived w f fetched limit base.root backing input output left
    lived_seen x =
        let whole = session_seen fetched (attempted w f) w.honest copies limit x.begun x.ended input output x.said x.session x.told in
        let from = subst (λ (s : Ledger S). Session (LedgerAnswers fetched limit) (s, ledger x.ended.core.history x.ended.source) input output x.said)
        (ap (λ (m : Core (Checkout F)). ledger m.history x.begun.source) x.begins.core ∙ ap (λ (s : S). ledger [] s) x.begins.source) whole in
        record {
          history = x.ended.core.history;
          said = x.said;
          session = subst (λ (s : S). Session (LedgerAnswers fetched limit) (ledger [] backing.source, ledger x.ended.core.history s) input output x.said) (sym x.ends.source_left) from;
          legal = x.legal;
          served = x.ended.core.table.inodes.files;
          ended = close_seen w f base.root x.ended.core.table (replay w.opening x.ended.core.history) (replay_numbers w.numbers x.ended.core.history) left.unclosed left.backing.files x.ends.files;
          told = x.ends.told;
        }

    refused_seen : (why : _) → IsUnservedInside w f fetched copies limit base backing input output why left → IsUnserved w f fetched limit backing input output left
    refused_seen why x = record { files = x.files.unchanged; source = x.source; unread = x.unread; unwritten = x.unwritten; unclosed = x.unclosed }

    lives_by : (o : Result ⊤ LifeFault) → LivesInsideBy w f fetched copies limit o base settings backing input output left → LivesBy w f fetched limit o base.root backing input output left
    lives_by (Err (life.Open why)) x = refused_seen why x
    lives_by (Err (life.Session why)) x = lived_seen x
    lives_by (Err (life.Close why)) x = lived_seen x
    lives_by (Ok u) x = lived_seen x

    -- a whole life
    pub lives_seen : LivesInside w f fetched copies limit base settings backing input output left → Lives w f fetched limit base.root backing input output left
    lives_seen x = lives_by left.outcome x
