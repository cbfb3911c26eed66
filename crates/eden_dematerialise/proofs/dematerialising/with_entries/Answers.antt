use Rattle.std.proofs.Common.{rules, [], ◌∷◌, ◌++◌, ◌∙◌, ◌+◌, ℕ, List, Contains, refl, sym, ap, subst}
use Rattle.std.proofs.lemmas.List.{length-append}
use Rattle.eden_model.specs.declared.id.Id.{Id}
use Rattle.eden_overlay_format.specs.declared.stored_entry.StoredEntry.{StoredEntry}
use Rattle.eden_overlay.specs.Files.{Stored}
use Rattle.eden_overlay.proofs.CallerLemmas.{contains_none}
use Rattle.eden_dematerialise.specs.Dematerialising.{Stand}
use Rattle.eden_dematerialise.specs.Settling.{AreLed, AreSettled}
use Rattle.eden_dematerialise.proofs.dematerialising.with_entries.Goals as goal

pub entries-init : goal.entries-init
entries-init g c =
    let R = g.W.World.repository in
    let F = g.F.Files.stored c.args.files.now in
    let commit = c.args.commit.now in
    record {
      stand = λ honest. subst (λ (l : List StoredEntry). Stand R F commit [] l) (sym c.in_ok-new.ensures) Stand.none;
      same = λ unchanged. c.in_ok-new.ensures;
      settled = λ honest. subst (AreSettled R F commit) (sym c.in_ok-new.ensures) (λ e there among. contains_none e there);
      led = subst (λ (l : List StoredEntry). AreLed commit l c.new-3.result.items) (sym c.in_ok-new.ensures) (λ e there leads tree place. absurd (contains_none e there));
      from = λ honest x there. absurd (contains_none x (subst (λ (l : List (ℕ × Id)). Contains l x) c.new-3.ensures.items there));
      numbers = search rules;
      long = search rules;
      unchanged = λ honest. refl;
    }

pub entries-preserved-in_ok-made : goal.entries-preserved-in_ok-made
entries-preserved-in_ok-made g c =
    let R = g.W.World.repository in
    let F = g.F.Files.stored c.args.files.now in
    let e = c.in-Some.entry in
    let yielded = c.entries.yielded in
    let before = c.entries.invariant in
    let made = c.in_ok-made.made in
    record {
      stand = λ honest.
          let same = before.unchanged honest in
          subst (λ (X : Stored). Stand R X c.args.commit.now (yielded ++ e ∷ []) made.listing) same
          (c.in_ok-made.ensures.stand honest yielded (subst (λ (X : Stored). Stand R X c.args.commit.now yielded c.entries.made.listing) (sym same) (before.stand honest)));
      same = λ unchanged.
          let both = c.in_ok-made.ensures.same unchanged in
          both.1 ∙ ap (λ (l : List StoredEntry). l ++ e ∷ []) (before.same both.0);
      settled = λ honest.
          let same = before.unchanged honest in
          subst (λ (X : Stored). AreSettled R X c.args.commit.now made.listing) same
          (c.in_ok-made.ensures.settled honest (subst (λ (X : Stored). AreSettled R X c.args.commit.now c.entries.made.listing) (sym same) (before.settled honest)));
      led = c.in_ok-made.ensures.led before.led;
      from = λ honest. c.in_ok-made.ensures.from honest (before.from honest);
      numbers = c.in_ok-made.ensures.numbers before.numbers;
      long = c.in_ok-made.ensures.long ∙ ap (λ k. k + 1) before.long ∙ sym (length-append yielded (e ∷ []));
      unchanged = λ honest. c.with_entry.ensures.unchanged honest ∙ before.unchanged honest;
    }

pub entries-preserved : goal.entries-preserved
entries-preserved g c =
    let R = g.W.World.repository in
    let F = g.F.Files.stored c.args.files.now in
    let e = c.in-Some.entry in
    let yielded = c.entries.yielded in
    let before = c.entries.invariant in
    let made = c.in_ok-made.made in
    record {
      stand = λ honest.
          let same = before.unchanged honest in
          subst (λ (X : Stored). Stand R X c.args.commit.now (yielded ++ e ∷ []) made.listing) same
          (c.in_ok-made.ensures.stand honest yielded (subst (λ (X : Stored). Stand R X c.args.commit.now yielded c.entries.made.listing) (sym same) (before.stand honest)));
      same = λ unchanged.
          let both = c.in_ok-made.ensures.same unchanged in
          both.1 ∙ ap (λ (l : List StoredEntry). l ++ e ∷ []) (before.same both.0);
      settled = λ honest.
          let same = before.unchanged honest in
          subst (λ (X : Stored). AreSettled R X c.args.commit.now made.listing) same
          (c.in_ok-made.ensures.settled honest (subst (λ (X : Stored). AreSettled R X c.args.commit.now c.entries.made.listing) (sym same) (before.settled honest)));
      led = c.in_ok-made.ensures.led before.led;
      from = λ honest. c.in_ok-made.ensures.from honest (before.from honest);
      numbers = c.in_ok-made.ensures.numbers before.numbers;
      long = c.in_ok-made.ensures.long ∙ ap (λ k. k + 1) before.long ∙ sym (length-append yielded (e ∷ []));
      unchanged = λ honest. c.with_entry.ensures.unchanged honest ∙ before.unchanged honest;
    }
