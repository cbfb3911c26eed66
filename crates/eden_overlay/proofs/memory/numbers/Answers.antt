use Rattle.std.proofs.Common.{rules, ◌≡◌, ◌∙◌, ℕ, List, IfOk, subst, sym, ap}
use Rattle.std.specs.BTreeMap.{keys}
use Rattle.std.specs.Ordering.{nat_cmp, eq_by_cmp}
use Rattle.std.specs.Set.{is_member}
use Rattle.std.proofs.iter.runs.Made.{chains}
use Rattle.std.proofs.lemmas.Result.{IfOk-weaker}
use Rattle.eden_overlay.specs.Files.{ListsNumbers}
use Rattle.eden_overlay.specs.InMemory.{files_of, stored_in}
use Rattle.eden_overlay.proofs.Held.{Lists-keys}
use Rattle.eden_overlay.proofs.memory.numbers.Goals as goal

pub returns-clause-all : goal.returns-clause-all
returns-clause-all c =
    let m = c.args.files.now in
    let e : IfOk c.collect.result (λ v. v.items ≡ keys m) = search (rules, chains) in
    let P : List ℕ → Type 0 = λ ks. ListsNumbers ks (stored_in (files_of m.entries)) in
    let all : P (keys m) = Lists-keys m c.keys.ensures.found (λ q. c.keys.ensures.has q ∙ ap (λ ks. is_member (eq_by_cmp nat_cmp) ks q) c.keys.ensures.rest) in
    IfOk-weaker c.collect.result _ _ (λ v is. subst P (sym is) all) e
