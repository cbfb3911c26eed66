use Rattle.std.proofs.Common.{◌≡◌, refl, sym, ◌∙◌}
use Rattle.std.proofs.lemmas.Slice.Eq.{bytes_eq-Decides}
use Rattle.eden_object.specs.Trees.{IsFree}
use Rattle.eden_object.proofs.NameLemmas.{carries_on, carries_no, carries_all}
use Rattle.eden_object.proofs.names.is_free.Goals as goal

pub returns-then-eq : goal.returns-then-eq
returns-then-eq c = λ es h.
    let same : c.in-Some.row.name.now ≡ c.args.name.now = (bytes_eq-Decides c.in-Some.row.name.now c.args.name.now).0 (sym c.eq.ensures ∙ c.if-eq.true) in (
      (λ e. cc),
      (λ p. absurd (carries_no (IsFree c.args.name.now) _ c.args.body.now _ _ c.rows.invariant c.in-Some.ensures
          (λ fs k q. q.0 same) es h p)),
    )

pub rows-preserved : goal.rows-preserved
rows-preserved c = carries_on (IsFree c.args.name.now) _ c.args.body.now _ _ c.rows.invariant c.in-Some.ensures
    (λ fs k. ((λ q. q.1), (λ q. ((λ same. let yes = (bytes_eq-Decides c.in-Some.row.name.now c.args.name.now).1 same in let answer = c.eq.ensures in let no = c.if-eq.false in cc), q))))

pub returns : goal.returns
returns c = λ es h. ((λ e. carries_all (IsFree c.args.name.now) c.args.body.now c.rows.rest.now c.rows.invariant c.in_default.ensures tt es h), (λ p. refl))
