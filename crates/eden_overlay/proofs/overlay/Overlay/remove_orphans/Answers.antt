use Rattle.std.proofs.Common.{rules, ◌≡◌, ◌+◌, ℕ, List, None, refl, sym, subst, take, get_or, All}
use Rattle.std.proofs.lemmas.List.{take_all}
use Rattle.std.proofs.lemmas.List.Elements.{All-more, All-weaker, All-get_or}
use Rattle.eden_overlay.specs.Files.{Stored}
use Rattle.eden_overlay.specs.Held.{without}
use Rattle.eden_overlay.specs.Soundness.{AreSound}
use Rattle.eden_overlay.specs.Tidying.{IsOrphan, IsTidiedInPart}
use Rattle.eden_overlay.proofs.Puts.{put_here}
use Rattle.eden_overlay.proofs.Tidied.{one_less, still_gone, still_sound}
use Rattle.eden_overlay.proofs.overlay.Overlay.remove_orphans.Goals as goal

pub remove-requires : goal.remove-requires
remove-requires g c = record {
  sound = λ honest.
      let F = g.F.Files.stored c.args.self.now in
      let G = g.F.Files.stored c.loop-number.self in
      let k = get_or c.args.numbers.now c.loop-number.number-index 0 in
      let (root, all) = c.requires.orphans honest in
      let orphan = All-get_or (IsOrphan F root) c.args.numbers.now c.loop-number.number-index 0 c.loop-number-test.true all in
      still_sound F root (without G k) (one_less F root G k (c.loop-number.invariant.part honest root all) orphan).others (c.requires.sound honest);
}

pub returns-in_err-remove-clause-sound : goal.returns-in_err-remove-clause-sound
returns-in_err-remove-clause-sound g c = λ honest.
    let F = g.F.Files.stored c.args.self.now in
    let (root, all) = c.requires.orphans honest in
    subst AreSound (sym (c.in_err-remove.ensures.err honest))
    (still_sound F root (g.F.Files.stored c.loop-number.self) (c.loop-number.invariant.part honest root all).others (c.requires.sound honest))

pub loop-number-preserved : goal.loop-number-preserved
loop-number-preserved g c =
    let F = g.F.Files.stored c.args.self.now in
    let G = g.F.Files.stored c.loop-number.self in
    let ks = c.args.numbers.now in
    let i = c.loop-number.number-index in
    let k = get_or ks i 0 in
    record {
      part = λ honest root all.
          let orphan = All-get_or (IsOrphan F root) ks i 0 c.loop-number-test.true all in
          subst (IsTidiedInPart F root) (sym (c.in_ok-remove.ensures.ok honest)) (one_less F root G k (c.loop-number.invariant.part honest root all) orphan);
      gone = λ honest.
          let P : Stored → Type 0 = λ X. All (λ j. X j ≡ None) (take (i + 1) ks) in
          subst P (sym (c.in_ok-remove.ensures.ok honest))
          (All-more (λ j. without G k j ≡ None) ks i 0 c.loop-number-test.true
          (All-weaker (λ j. G j ≡ None) (λ j. without G k j ≡ None) (λ j gone. still_gone G k j gone) (take i ks) (c.loop-number.invariant.gone honest))
          (put_here G k k None refl));
      counted = search rules;
    }

pub returns-clause-gone : goal.returns-clause-gone
returns-clause-gone g c = λ honest.
    let G = g.F.Files.stored c.loop-number.self in
    let P : List ℕ → Type 0 = λ l. All (λ j. G j ≡ None) l in
    subst P (take_all c.loop-number.number-index c.args.numbers.now c.loop-number-test.false) (c.loop-number.invariant.gone honest)

pub returns-clause-sound : goal.returns-clause-sound
returns-clause-sound g c = λ honest.
    let (root, all) = c.requires.orphans honest in
    still_sound (g.F.Files.stored c.args.self.now) root (g.F.Files.stored c.loop-number.self) (c.loop-number.invariant.part honest root all).others (c.requires.sound honest)

pub returns-in_err-remove-clause-others : goal.returns-in_err-remove-clause-others
returns-in_err-remove-clause-others g c = λ honest root all.
    subst (IsTidiedInPart (g.F.Files.stored c.args.self.now) root) (sym (c.in_err-remove.ensures.err honest)) (c.loop-number.invariant.part honest root all)
