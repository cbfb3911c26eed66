use Rattle.std.proofs.Common.{refl}
use Rattle.eden_object.specs.Trees.{NamesDiffer}
use Rattle.eden_object.proofs.NameLemmas.{carries_on, carries_no, carries_all}
use Rattle.eden_object.proofs.names.differ_pairwise.Goals as goal

pub returns-then-not-is_free : goal.returns-then-not-is_free
returns-then-not-is_free c = λ es h. (
  (λ e. cc),
  (λ p. absurd (carries_no NamesDiffer _ c.args.body.now _ _ c.rows.invariant c.in-Some.ensures
      (λ fs k q. let free = (c.if-not-is_free.ensures fs k).1 q.0 in cc) es h p)),
)

pub rows-preserved : goal.rows-preserved
rows-preserved c = carries_on NamesDiffer _ c.args.body.now _ _ c.rows.invariant c.in-Some.ensures
    (λ fs k. ((λ q. q.1), (λ q. ((c.if-not-is_free.ensures fs k).0 refl, q))))

pub returns : goal.returns
returns c = λ es h. ((λ e. carries_all NamesDiffer c.args.body.now c.rows.rest.now c.rows.invariant c.in_default.ensures tt es h), (λ p. refl))
