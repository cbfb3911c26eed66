use Rattle.std.proofs.Common.{◌≡◌, ◌∷◌, sym, ap, ◌∙◌, subst}
use Rattle.std.proofs.lemmas.Option.{none-some, same_Some}
use Rattle.eden_model.specs.Trees.{Path}
use Rattle.eden_tree.specs.Directory.{child_of}
use Rattle.eden_coupling.specs.Saving.{IsSavedAbove}
use Rattle.eden_materialise.proofs.Fronts.{saved_step, saved_away, unsaved_here, unsaved_below}
use Rattle.eden_materialise.proofs.saving.+has_unsaved.Goals as goal

pub returns-then-unsaved-clause-found : goal.returns-then-unsaved-clause-found
returns-then-unsaved-clause-found g t c is x holds =
    let n = c.in-Some.name.now in
    let p = c.in-Some.rest.now in
    let path : c.args.path.now ≡ n ∷ p = c.in-Some.ensures.cases.0 in
    subst (λ (q : Path). ¬ IsSavedAbove q x) (sym path) (unsaved_here n p x c.args.dir.now holds (sym c.unsaved.ensures ∙ c.if-unsaved.true))

pub returns-in-None-get-clause-clear : goal.returns-in-None-get-clause-clear
returns-in-None-get-clause-clear g t c is x holds =
    let n = c.in-Some.name.now in
    let p = c.in-Some.rest.now in
    let path : c.args.path.now ≡ n ∷ p = c.in-Some.ensures.cases.0 in
    subst (λ (q : Path). IsSavedAbove q x) (sym path)
    (saved_step n p x c.args.dir.now holds (sym c.unsaved.ensures ∙ c.if-unsaved.false)
    (λ z there. absurd (none-some z (c.in-None-get.ensures ∙ there))))

pub returns-in-None-directory-clause-clear : goal.returns-in-None-directory-clause-clear
returns-in-None-directory-clause-clear g t c is x holds =
    let n = c.in-Some.name.now in
    let p = c.in-Some.rest.now in
    let path : c.args.path.now ≡ n ∷ p = c.in-Some.ensures.cases.0 in
    subst (λ (q : Path). IsSavedAbove q x) (sym path)
    (saved_step n p x c.args.dir.now holds (sym c.unsaved.ensures ∙ c.if-unsaved.false)
    (λ z there.
    saved_away p z (ap child_of (same_Some z c.in-Some-get.entry.now (sym there ∙ sym c.in-Some-get.ensures)) ∙ sym c.in-None-directory.ensures)))

pub returns-in-Some-directory-clause-clear : goal.returns-in-Some-directory-clause-clear
returns-in-Some-directory-clause-clear g t c is x holds =
    let n = c.in-Some.name.now in
    let p = c.in-Some.rest.now in
    let path : c.args.path.now ≡ n ∷ p = c.in-Some.ensures.cases.0 in
    subst (λ (q : Path). IsSavedAbove q x) (sym path)
    (saved_step n p x c.args.dir.now holds (sym c.unsaved.ensures ∙ c.if-unsaved.false)
    (λ z there.
    c.has_unsaved.ensures.clear is z (ap child_of (same_Some z c.in-Some-get.entry.now (sym there ∙ sym c.in-Some-get.ensures)) ∙ sym c.in-Some-directory.ensures)))

pub returns-in-Some-directory-clause-found : goal.returns-in-Some-directory-clause-found
returns-in-Some-directory-clause-found g t c is x holds =
    let n = c.in-Some.name.now in
    let p = c.in-Some.rest.now in
    let path : c.args.path.now ≡ n ∷ p = c.in-Some.ensures.cases.0 in
    let z = c.in-Some-get.entry.now in
    subst (λ (q : Path). ¬ IsSavedAbove q x) (sym path)
    (unsaved_below n p x c.args.dir.now holds z (sym c.in-Some-get.ensures) (c.has_unsaved.ensures.found is z (sym c.in-Some-directory.ensures)))
