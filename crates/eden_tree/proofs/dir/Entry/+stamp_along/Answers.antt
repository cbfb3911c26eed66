use Rattle.std.proofs.Common.{◌≡◌, Some, None, sym, ap, ◌∙◌}
use Rattle.eden_model.specs.Trees.{Path}
use Rattle.eden_tree.specs.Directory.{Row, Directory, child_of, with_child}
use Rattle.eden_tree.specs.Rows.{find_row, set_row}
use Rattle.eden_tree.specs.Paths.{stamped_along}
use Rattle.eden_tree.proofs.Children.{held_some, held_none}
use Rattle.eden_tree.proofs.Edits.{stamped_along-unloaded, stamped_along-end, stamped_along-absent, stamped_along-found, no_names}
use Rattle.eden_tree.proofs.dir.Entry.+stamp_along.Goals as goal

pub returns-in-None : goal.returns-in-None
returns-in-None g t c = c.self.view_is ∙ sym (stamped_along-unloaded c.args.stamp c.args.self.now c.args.path.now (held_none _ _ _ _ _ c.self.view_is c.in-None.is))

pub returns-in-None-split_first : goal.returns-in-None-split_first
returns-in-None-split_first g t c =
    let x = c.args.self.now in
    let s = c.args.stamp in
    let d = c.in-Some.child.value in
    let holds : child_of x ≡ Some d = held_some _ _ _ _ _ c.self.view_is c.in-Some.child c.in-Some.is in
    let done : c.set_stamp.new.self ≡ record d { stamp = s } = c.set_stamp.ensures ∙ ap (λ (e : Directory). record e { stamp = s }) c.deref_mut.ensures.value in
    ap (λ (v : Row). with_child (Some c.set_stamp.new.self) v) c.self.view_is
    ∙ ap (λ (e : Directory). with_child (Some e) x) done
    ∙ sym (ap (λ (p : Path). stamped_along p s x) (no_names c.args.path.now c.in-None-split_first.ensures.cases) ∙ stamped_along-end s x d holds)

pub returns-in-None-get_mut : goal.returns-in-None-get_mut
returns-in-None-get_mut g t c =
    let x = c.args.self.now in
    let s = c.args.stamp in
    let d = c.in-Some.child.value in
    let n = c.in-Some-split_first.name.now in
    let last = c.deref_mut-in-Some-split_first.result.now in
    let holds : child_of x ≡ Some d = held_some _ _ _ _ _ c.self.view_is c.in-Some.child c.in-Some.is in
    let done : last ≡ record d { stamp = s } = c.deref_mut-in-Some-split_first.ensures.value ∙ c.set_stamp.ensures ∙ ap (λ (e : Directory). record e { stamp = s }) c.deref_mut.ensures.value in
    let absent : find_row n d.rows ≡ None = ap (λ (e : Directory). find_row n e.rows) (sym done) ∙ sym c.in-None-get_mut.ensures.value in
    ap (λ (v : Row). with_child (Some last) v) c.self.view_is
    ∙ ap (λ (e : Directory). with_child (Some e) x) done
    ∙ sym (ap (λ (p : Path). stamped_along p s x) c.in-Some-split_first.ensures.cases.0 ∙ stamped_along-absent s x n c.in-Some-split_first.rest.now d holds absent)

pub returns : goal.returns
returns g t c =
    let x = c.args.self.now in
    let s = c.args.stamp in
    let d = c.in-Some.child.value in
    let n = c.in-Some-split_first.name.now in
    let p = c.in-Some-split_first.rest.now in
    let y = c.in-Some-get_mut.entry.now in
    let last = c.deref_mut-in-Some-split_first.result.now in
    let holds : child_of x ≡ Some d = held_some _ _ _ _ _ c.self.view_is c.in-Some.child c.in-Some.is in
    let done : last ≡ record d { stamp = s } = c.deref_mut-in-Some-split_first.ensures.value ∙ c.set_stamp.ensures ∙ ap (λ (e : Directory). record e { stamp = s }) c.deref_mut.ensures.value in
    let there : find_row n d.rows ≡ Some y = ap (λ (e : Directory). find_row n e.rows) (sym done) ∙ sym c.in-Some-get_mut.ensures.value in
    ap (λ (v : Row). with_child (Some (record last { rows = set_row n c.stamp_along.new.self last.rows })) v) c.self.view_is
    ∙ ap (λ (e : Directory). with_child (Some (record e { rows = set_row n c.stamp_along.new.self e.rows })) x) done
    ∙ ap (λ (z : Row). with_child (Some (record d { stamp = s; rows = set_row n z d.rows })) x) c.stamp_along.ensures
    ∙ sym (ap (λ (q : Path). stamped_along q s x) c.in-Some-split_first.ensures.cases.0 ∙ stamped_along-found s x n p d holds y there)
