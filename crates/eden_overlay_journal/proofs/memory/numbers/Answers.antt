use Rattle.std.proofs.Common.{rules, ◌≡◌, ◌∙◌, ℕ, List, IfOk, subst, sym, ap}
use Rattle.std.specs.BTreeMap.{keys}
use Rattle.std.specs.Ordering.{nat_cmp, eq_by_cmp}
use Rattle.std.specs.Set.{is_member}
use Rattle.std.proofs.iter.runs.Made.{chains}
use Rattle.std.proofs.lemmas.Result.{IfOk-weaker}
use Rattle.eden_overlay_journal.specs.Changes.{ListsChanges, changes_in}
use Rattle.eden_overlay_journal.proofs.Kept.{ListsChanges-keys}
use Rattle.eden_overlay_journal.proofs.memory.numbers.Goals as goal

pub returns : goal.returns
returns c =
    let m = c.args.files.now in
    let e : IfOk c.collect.result (λ v. v.items ≡ keys m) = search (rules, chains) in
    let P : List ℕ → Type 0 = λ ks. ListsChanges ks (changes_in m) in
    let all : P (keys m) = ListsChanges-keys m (λ q. c.keys.ensures.has q ∙ ap (λ ks. is_member (eq_by_cmp nat_cmp) ks q) c.keys.ensures.rest) in
    IfOk-weaker c.collect.result _ _ (λ v is. subst P (sym is) all) e
