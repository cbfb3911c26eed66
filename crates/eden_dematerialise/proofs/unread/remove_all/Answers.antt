use Rattle.std.proofs.Common.{rules, ◌≡◌, ◌≢◌, ◌∙◌, None, true, Contains, nat_cmp, sym, ap, subst, inl, inr}
use Rattle.std.specs.BTreeSet.{contains}
use Rattle.std.proofs.lemmas.Iterator.Adapters.{YieldsList-from_vec}
use Rattle.std.proofs.lemmas.Iterator.Consumers.{YieldsList-turn}
use Rattle.std.proofs.lemmas.List.Elements.{Contains-push_cases}
use Rattle.eden_overlay.specs.Files.{Stored, with_file}
use Rattle.eden_overlay.proofs.CallerLemmas.{put_apart, put_here, same_or_apart}
use Rattle.eden_dematerialise.proofs.unread.remove_all.Goals as goal

pub numbers-preserved-in-Continue-1 : goal.numbers-preserved-in-Continue-1
numbers-preserved-in-Continue-1 g c =
    let items = c.args.numbers.items in
    let kept = c.args.kept.now in
    let H = g.F.Files.stored c.numbers.files in
    let G = g.F.Files.stored c.remove.new.self in
    let n = c.in-Some.number in
    let given = c.into_iter-number-iterator.ensures.into_iter_gives in
    let all = YieldsList-from_vec {s = c.into_iter-number-iterator.result} items given.0 (given.1 ∙ c.args.numbers.ok.0) in
    let turn = YieldsList-turn all c.numbers.yielded c.numbers.number-iterator c.numbers.yielded_by c.next.result c.next.new.self n c.in-Some.is c.next.ensures.steps in
    let goes : contains nat_cmp kept n ≢ true = search rules in
    record {
      others = λ honest k.
          let is : G ≡ with_file H n None = c.in_ok-remove.ensures.ok honest in
          elim (same_or_apart n k) [
            | inl same ↦
                inr (ap (λ (X : Stored). X k) is ∙ put_here H n k None same, subst (Contains items) same (_, turn.0, sym turn.1), subst (λ j. contains nat_cmp kept j ≢ true) same goes)
            | inr apart ↦
                (let still : G k ≡ H k = ap (λ (X : Stored). X k) is ∙ put_apart H n k None apart in
                elim (c.numbers.invariant.others honest k) [ inl was ↦ inl (still ∙ was) | inr gone ↦ inr (still ∙ gone.0, gone.1, gone.2) ])
          ];
      gone = λ honest k there free.
          let is : G ≡ with_file H n None = c.in_ok-remove.ensures.ok honest in
          elim (same_or_apart n k) [
            | inl same ↦ ap (λ (X : Stored). X k) is ∙ put_here H n k None same
            | inr apart ↦ elim (Contains-push_cases c.numbers.yielded n k there) [
              | inl was ↦ ap (λ (X : Stored). X k) is ∙ put_apart H n k None apart ∙ c.numbers.invariant.gone honest k was free
              | inr same ↦ absurd (apart same)
            ]
          ];
    }
