use Rattle.std.proofs.Common.{rules, ◌≤◌, ◌<◌, ℕ, List, All, subst, take, get_or, arith}
use Rattle.std.proofs.lemmas.List.{take_all}
use Rattle.std.proofs.lemmas.List.Elements.{All-more, All-weaker}
use Rattle.eden_overlay.proofs.rescan.after_files.Goals as goal

pub loop-number-preserved : goal.loop-number-preserved
loop-number-preserved c =
    let ks = c.args.files.now in
    let i = c.loop-number.number-index in
    let was = c.loop-number.next in
    let next = c.if-number-next.next in
    let grows : was ≤ next = search rules in
    let own : get_or ks i 0 < next = search rules in
    record {
      above = search rules;
      files = All-more (λ k. k < next) ks i 0 c.loop-number-test.true
          (All-weaker (λ k. k < was) (λ k. k < next) (λ k less. omega (arith, less, grows)) (take i ks) c.loop-number.invariant.files) own;
      range = search rules;
      last = search rules;
    }

pub returns-clause-files : goal.returns-clause-files
returns-clause-files c =
    let next = c.loop-number.next in
    let P : List ℕ → Type 0 = λ l. All (λ k. k < next) l in
    subst P (take_all c.loop-number.number-index c.args.files.now c.loop-number-test.false) c.loop-number.invariant.files
