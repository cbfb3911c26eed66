use Rattle.std.proofs.Common.{◌≡◌, ◌++◌, ◌∷◌, [], List, Some, IfSome, sym, subst, inl, inr}
use Rattle.eden_overlay_format.specs.declared.stored_entry.StoredEntry.{StoredEntry}
use Rattle.eden_snapshot.specs.Commits.{place_named}
use Rattle.eden_snapshot.specs.Written.{mode_of}
use Rattle.eden_dematerialise.specs.Dematerialising.{IsHad, Stand, on_object}
use Rattle.eden_dematerialise.specs.Settling.{AreFrom, AreLed, AreSettled}
use Rattle.eden_dematerialise.proofs.Left.{from_more, led_more, object_settled, settled_more}
use Rattle.eden_dematerialise.proofs.Standing.{one_more, one_stays}
use Rattle.eden_dematerialise.proofs.dematerialising.with_entry.Goals as goal

pub returns-in_ok-push-in-None-clause-stand : goal.returns-in_ok-push-in-None-clause-stand
returns-in_ok-push-in-None-clause-stand g c = λ honest entries stood.
    let R = g.W.World.repository in
    let F = g.F.Files.stored c.args.files.now in
    let e = c.args.entry.now in
    subst (λ (l : List StoredEntry). Stand R F c.args.commit.now (entries ++ e ∷ []) l) (sym c.in_ok-push-in-None.ensures) (one_stays R F entries c.args.made.listing e stood)

pub returns-in_ok-push-in-Some-clause-stand : goal.returns-in_ok-push-in-Some-clause-stand
returns-in_ok-push-in-Some-clause-stand g c = λ honest entries stood.
    let R = g.W.World.repository in
    let F = g.F.Files.stored c.args.files.now in
    let e = c.args.entry.now in
    let id = c.in-Some.id in
    let had : IsHad R F e id = subst (λ o. IfSome o (IsHad R F e)) c.in-Some.is (c.in_ok-object.ensures.had honest) in
    let placed : place_named e.name c.args.commit.now ≡ Some (mode_of e.kind, id) =
    subst (λ o. IfSome o (λ i. place_named e.name c.args.commit.now ≡ Some (mode_of e.kind, i))) c.in-Some.is c.in_ok-object.ensures.place in
    subst (λ (l : List StoredEntry). Stand R F c.args.commit.now (entries ++ e ∷ []) l) (sym c.in_ok-push-in-Some.ensures) (one_more R F entries c.args.made.listing e id stood had placed)

pub returns-in_ok-push-in-None-clause-settled : goal.returns-in_ok-push-in-None-clause-settled
returns-in_ok-push-in-None-clause-settled g c = λ honest settled.
    let R = g.W.World.repository in
    let F = g.F.Files.stored c.args.files.now in
    let commit = c.args.commit.now in
    subst (AreSettled R F commit) (sym c.in_ok-push-in-None.ensures)
    (settled_more R F commit c.args.made.listing c.args.entry.now (c.in_ok-object.ensures.none honest c.in-None.is) settled)

pub returns-in_ok-push-in-None-clause-led : goal.returns-in_ok-push-in-None-clause-led
returns-in_ok-push-in-None-clause-led g c = λ led.
    let commit = c.args.commit.now in
    let below = c.in_ok-below.below.items in
    subst (λ (l : List StoredEntry). AreLed commit l below) (sym c.in_ok-push-in-None.ensures)
    (led_more commit c.args.made.listing c.args.entry.now c.args.made.below.items below led c.in_ok-below.ensures.stay c.in_ok-below.ensures.led)

pub returns-in_ok-push-in-Some-clause-settled : goal.returns-in_ok-push-in-Some-clause-settled
returns-in_ok-push-in-Some-clause-settled g c = λ honest settled.
    let R = g.W.World.repository in
    let F = g.F.Files.stored c.args.files.now in
    let commit = c.args.commit.now in
    subst (AreSettled R F commit) (sym c.in_ok-push-in-Some.ensures)
    (settled_more R F commit c.args.made.listing _ (object_settled R F commit c.args.entry.now c.in-Some.id) settled)

pub returns-in_ok-push-in-None-clause-from : goal.returns-in_ok-push-in-None-clause-from
returns-in_ok-push-in-None-clause-from g c = λ honest from.
    let commit = c.args.commit.now in
    let below = c.in_ok-below.below.items in
    subst (λ (l : List StoredEntry). AreFrom commit l below) (sym c.in_ok-push-in-None.ensures)
    (from_more commit c.args.made.listing c.args.entry.now c.args.made.below.items below from c.in_ok-below.ensures.from)

pub returns-in_ok-push-in-Some-clause-from : goal.returns-in_ok-push-in-Some-clause-from
returns-in_ok-push-in-Some-clause-from g c = λ honest from.
    let R = g.W.World.repository in
    let F = g.F.Files.stored c.args.files.now in
    let e = c.args.entry.now in
    let commit = c.args.commit.now in
    let below = c.in_ok-below.below.items in
    let had : IsHad R F e c.in-Some.id = subst (λ o. IfSome o (IsHad R F e)) c.in-Some.is (c.in_ok-object.ensures.had honest) in
    subst (λ (l : List StoredEntry). AreFrom commit l below) (sym c.in_ok-push-in-Some.ensures)
    (from_more commit c.args.made.listing (on_object e c.in-Some.id) c.args.made.below.items below from
    (λ x there. elim (c.in_ok-below.ensures.from x there) [
      | inl before ↦ inl before
      | inr is ↦ absurd (had.closed is.0.0)
    ]))
