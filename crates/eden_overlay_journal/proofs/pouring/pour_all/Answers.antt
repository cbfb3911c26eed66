use Rattle.std.proofs.Common.{◌≡◌, ◌+◌, ◌∙◌, refl, sym, ap, subst, take, get_or, All, List, ℕ}
use Rattle.std.proofs.lemmas.List.{take_all}
use Rattle.std.proofs.lemmas.List.Elements.{All-more, All-weaker}
use Rattle.eden_overlay.specs.Files.{Stored, with_file}
use Rattle.eden_overlay.proofs.CallerLemmas.{put_here}
use Rattle.eden_overlay_journal.specs.Changes.{Changes, changed_files}
use Rattle.eden_overlay_journal.proofs.Over.{poured_same}
use Rattle.eden_overlay_journal.proofs.Poured.{still_done}
use Rattle.eden_overlay_journal.proofs.pouring.pour_all.Goals as goal

pub returns-in_err-pour_one-clause-journal : goal.returns-in_err-pour_one-clause-journal
returns-in_err-pour_one-clause-journal g c = λ honest. c.in_err-pour_one.ensures.journal honest ∙ c.loop-number.invariant.journal honest

pub returns-in_err-pour_one-clause-same : goal.returns-in_err-pour_one-clause-same
returns-in_err-pour_one-clause-same g c = λ honest.
    ap (changed_files (g.J.Journal.changes c.args.journal.now)) (c.in_err-pour_one.ensures.err honest) ∙ c.loop-number.invariant.same honest

pub loop-number-preserved : goal.loop-number-preserved
loop-number-preserved g c =
    let C = g.J.Journal.changes c.args.journal.now in
    let t : Stored = changed_files C (g.F.Files.stored c.args.files.now) in
    let F = g.F.Files.stored c.loop-number.files in
    let ks = c.args.numbers.now in
    let i = c.loop-number.number-index in
    let k = get_or ks i 0 in
    record {
      journal = λ honest. c.in_ok-pour_one.ensures.journal honest ∙ c.loop-number.invariant.journal honest;
      same = λ honest.
          let poured = c.in_ok-pour_one.ensures.ok honest ∙ ap (λ (x : Changes). with_file F k (changed_files x F k)) (c.loop-number.invariant.journal honest) in
          ap (changed_files C) poured ∙ poured_same C F k ∙ c.loop-number.invariant.same honest;
      done = λ honest.
          let poured = c.in_ok-pour_one.ensures.ok honest ∙ ap (λ (x : Changes). with_file F k (changed_files x F k)) (c.loop-number.invariant.journal honest)
          ∙ ap (λ (x : Stored). with_file F k (x k)) (c.loop-number.invariant.same honest) in
          let P : Stored → Type 0 = λ x. All (λ j. x j ≡ t j) (take (i + 1) ks) in
          subst P (sym poured)
          (All-more (λ j. with_file F k (t k) j ≡ t j) ks i 0 c.loop-number-test.true
          (All-weaker (λ j. F j ≡ t j) (λ j. with_file F k (t k) j ≡ t j) (λ j done. still_done F t k j done) (take i ks) (c.loop-number.invariant.done honest))
          (put_here F k k (t k) refl));
    }

pub returns-clause-ok : goal.returns-clause-ok
returns-clause-ok g c = λ honest.
    let t : Stored = changed_files (g.J.Journal.changes c.args.journal.now) (g.F.Files.stored c.args.files.now) in
    let P : List ℕ → Type 0 = λ l. All (λ j. g.F.Files.stored c.loop-number.files j ≡ t j) l in
    subst P (take_all c.loop-number.number-index c.args.numbers.now c.loop-number-test.false) (c.loop-number.invariant.done honest)
