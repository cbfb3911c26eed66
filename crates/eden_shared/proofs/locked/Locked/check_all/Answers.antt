use Rattle.std.proofs.Common.{rules, ◌≡◌, ℕ, ◌<◌, ◌≤◌, ◌∙◌, length, Some, refl, sym, ap, subst, arith, below_more}
use Rattle.std.specs.Prelude.{slice_get}
use Rattle.std.proofs.lemmas.Option.{slice_get_read, slice_get_within}
use Rattle.eden_shared.specs.Passes.{Carried, IsKnown}
use Rattle.eden_shared.proofs.Listed.{set_same}
use Rattle.eden_shared.proofs.locked.Locked.check_all.Goals as goal

pub loop-i-preserved : goal.loop-i-preserved
loop-i-preserved g c =
    let i = c.loop-i.i in let v = c.index_mut.result.now in let before = c.loop-i.invariant in let items = c.args.passes.now.items in
    let below : i < length c.loop-i.passes.items = search rules in
    let at : slice_get c.loop-i.passes.items i ≡ Some v = slice_get_read _ _ _ _ refl below c.index_mut.ensures.value in
    let P : ℕ → Type 0 = λ k. (p : Carried) → slice_get items k ≡ Some p → IsKnown g.T.Attempts.table c.args.self.now.mount p in
    let here : P i = λ p is.
    let same : v ≡ p = cc (sym at ∙ ap (λ l. slice_get l i) before.1 ∙ is) in
    subst (λ l. IsKnown g.T.Attempts.table l.mount p) before.0 (subst (λ (x : Carried). IsKnown g.T.Attempts.table c.loop-i.self.mount x) same c.check.ensures.known) in (
      c.check.ensures.lock ∙ before.0,
      set_same c.loop-i.passes.items i c.check.new.pass (at ∙ ap Some (sym c.check.ensures.pass)) ∙ before.1,
      below_more P i before.2 here,
    )

pub returns-clause-known : goal.returns-clause-known
returns-clause-known g c = λ k p at.
    let within = slice_get_within c.args.passes.now.items k p at in
    let all : length c.args.passes.now.items ≤ c.loop-i.i = search rules in
    c.loop-i.invariant.2 k (omega arith) p at
