use Rattle.std.proofs.Common.{◌≡◌, ◌++◌, ◌∷◌, [], ℕ, List, false, refl, sym, ap, subst, nat_cmp, true, arith, ◌∙◌}
use Rattle.std.specs.List.{list_any}
use Rattle.std.specs.BTreeMap.{is_at}
use Rattle.std.specs.BTreeSet.{contains}
use Rattle.eden_overlay.specs.declared.rescan.Pending.{Pending}
use Rattle.eden_overlay.specs.Files.{Stored}
use Rattle.eden_overlay.specs.Walking.{EndsIn, Walked}
use Rattle.eden_overlay.proofs.Accusing.{earlier, handed_on}
use Rattle.eden_overlay.proofs.overlay.Overlay.walk.Goals as goal

pub loop-entry-init : goal.loop-entry-init
loop-entry-init g c = record {
  unchanged = λ honest. refl;
  counted = omega arith;
  walked = λ honest root begun.
      let P : List ℕ → Type 0 = λ ks. Walked (g.F.Files.stored c.args.self.now) root c.args.pending.items (λ k. list_any (is_at (nat_cmp k)) ks) in
      subst P (sym c.new-met.ensures.empty) begun;
  ranges = c.requires.range;
  met = λ k has. let wrong : false ≡ true = ap (list_any (is_at (nat_cmp k))) (sym c.new-met.ensures.empty) ∙ has in absurd (cc);
}

pub returns-in_err-visit-clause-refused : goal.returns-in_err-visit-clause-refused
returns-in_err-visit-clause-refused g c =
    let honest = g.W.World.honest in
    let F = g.F.Files.stored c.args.self.now in
    let G = g.F.Files.stored c.loop-entry.self in
    let old = g.F.Files.failures c.args.self.now in
    let mid = g.F.Files.failures c.loop-entry.self in
    let new = g.F.Files.failures c.visit.new.self in
    let met = contains nat_cmp c.loop-entry.met in
    let popped : c.loop-entry.pending.items ≡ c.pop.new.self.items ++ c.in-Some.entry ∷ [] = c.in-Some.ensures.items in
    handed_on c.from_residual.result c.in_err-visit.field-0.0 (EndsIn honest F c.args.pending.items (λ _. false) old new) c.from_residual.ensures.1
    (λ root begun. earlier honest F G root old mid new c.in_err-visit.field-0.0 c.loop-entry.invariant.unchanged c.loop-entry.invariant.counted
    (c.in_err-visit.ensures.refused root (λ yes.
    let P : List Pending → Type 0 = λ l. Walked G root l met in
    subst P popped (subst (λ (X : Stored). Walked X root c.loop-entry.pending.items met) (sym (c.loop-entry.invariant.unchanged yes)) (c.loop-entry.invariant.walked yes root (begun yes))))))
