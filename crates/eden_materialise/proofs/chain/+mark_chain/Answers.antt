use Rattle.std.proofs.Common.{◌≡◌, false, if◌then◌else◌, Some, None, sym, ap, ◌∙◌}
use Rattle.eden_model.specs.Trees.{Path}
use Rattle.eden_tree.specs.Directory.{Row, Directory, with_child}
use Rattle.eden_tree.specs.Rows.{find_row, set_row}
use Rattle.eden_coupling.specs.Laws.{owned}
use Rattle.eden_coupling.specs.Materialising.{kept_mark, owned_along}
use Rattle.eden_coupling.proofs.CallerLemmas.{along_found}
use Rattle.eden_materialise.proofs.Steps.{own_below, along_absent}
use Rattle.eden_materialise.proofs.chain.+mark_chain.Goals as goal
use Rattle.eden_materialise.proofs.chain.+mark_chain.Goals.{then-becomes_own, else-becomes_own}

pub returns-in-None-get_mut : goal.returns-in-None-get_mut
returns-in-None-get_mut g t c =
    let x = c.args.root.now in
    let n = c.in-Some.name.now in
    let p = c.in-Some.rest.now in
    let d = c.in-Some-directory_mut.dir.now in
    let km = kept_mark (find_row n d.rows) d.unsaved in
    let told : km ≡ (if c.becomes_own.result then false else d.unsaved) = c.becomes_own.ensures d.unsaved in
    let is : c.if-becomes_own.dir ≡ record d { unsaved = km } = elim c.if-becomes_own.branch [
      | then-becomes_own w ↦ w.dir-is ∙ w.set_unsaved.ensures ∙ ap (λ m. record d { unsaved = m }) (sym (told ∙ ap (λ b. if b then false else d.unsaved) w.if-becomes_own.true))
      | else-becomes_own w ↦ w.dir-is ∙ ap (λ m. record d { unsaved = m }) (sym (told ∙ ap (λ b. if b then false else d.unsaved) w.if-becomes_own.false))
    ] in
    let absent : find_row n d.rows ≡ None = ap (λ (a : Directory). find_row n a.rows) (sym is) ∙ sym c.in-None-get_mut.ensures.value in
    ap (λ (a : Directory). with_child (Some a) x) is
    ∙ sym (along_absent n p x d (sym c.in-Some-directory_mut.ensures.value) absent)
    ∙ ap (λ (q : Path). owned_along q x) (sym c.in-Some.ensures.cases.0)

pub returns : goal.returns
returns g t c =
    let x = c.args.root.now in
    let n = c.in-Some.name.now in
    let p = c.in-Some.rest.now in
    let d = c.in-Some-directory_mut.dir.now in
    let z = c.in-Some-get_mut.below.now in
    let e = c.if-becomes_own.dir in
    let km = kept_mark (find_row n d.rows) d.unsaved in
    let told : km ≡ (if c.becomes_own.result then false else d.unsaved) = c.becomes_own.ensures d.unsaved in
    let is : e ≡ record d { unsaved = km } = elim c.if-becomes_own.branch [
      | then-becomes_own w ↦ w.dir-is ∙ w.set_unsaved.ensures ∙ ap (λ m. record d { unsaved = m }) (sym (told ∙ ap (λ b. if b then false else d.unsaved) w.if-becomes_own.true))
      | else-becomes_own w ↦ w.dir-is ∙ ap (λ m. record d { unsaved = m }) (sym (told ∙ ap (λ b. if b then false else d.unsaved) w.if-becomes_own.false))
    ] in
    let there : find_row n d.rows ≡ Some z = ap (λ (a : Directory). find_row n a.rows) (sym is) ∙ sym c.in-Some-get_mut.ensures.value in
    ap (λ (v : Row). with_child (Some (record e { rows = set_row n (owned v) e.rows })) x) (c.below.view_is ∙ c.mark_chain.ensures)
    ∙ ap (λ (a : Directory). with_child (Some (record a { rows = set_row n (own_below p z) a.rows })) x) is
    ∙ sym (along_found n p x d z (sym c.in-Some-directory_mut.ensures.value) there)
    ∙ ap (λ (q : Path). owned_along q x) (sym c.in-Some.ensures.cases.0)
