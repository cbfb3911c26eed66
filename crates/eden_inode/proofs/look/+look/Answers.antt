use Rattle.std.proofs.Common.{◌≡◌, Some, None, sym, ap, ◌∙◌}
use Rattle.eden_model.specs.Trees.{Path}
use Rattle.eden_tree.specs.Directory.{Row, Directory, child_of, with_child}
use Rattle.eden_tree.specs.Rows.{find_row, set_row}
use Rattle.eden_tree.specs.Paths.{stamped_along}
use Rattle.eden_tree.proofs.CallerLemmas.{stamped_along-unloaded, stamped_along-absent, stamped_along-found}
use Rattle.eden_inode.proofs.look.+look.Goals as goal

pub returns-in-None-clause-stamped : goal.returns-in-None-clause-stamped
returns-in-None-clause-stamped g t c = sym (stamped_along-unloaded c.args.clock c.args.entry.now c.args.path.now (sym c.in-None.ensures.value))

pub returns-in-None-get_mut-clause-stamped : goal.returns-in-None-get_mut-clause-stamped
returns-in-None-get_mut-clause-stamped g t c =
    let x = c.args.entry.now in
    let s = c.args.clock in
    let d = c.in-Some.dir.now in
    let n = c.in-Some-split_first.name.now in
    let holds : child_of x ≡ Some d = sym c.in-Some.ensures.value in
    let done : c.set_stamp.new.self ≡ record d { stamp = s } = c.set_stamp.ensures in
    let absent : find_row n d.rows ≡ None = ap (λ (e : Directory). find_row n e.rows) (sym done) ∙ sym c.in-None-get_mut.ensures.value in
    ap (λ (e : Directory). with_child (Some e) x) done
    ∙ sym (ap (λ (p : Path). stamped_along p s x) c.in-Some-split_first.ensures.cases.0 ∙ stamped_along-absent s x n c.in-Some-split_first.rest.now d holds absent)

pub returns-in-Some-get_mut-clause-stamped : goal.returns-in-Some-get_mut-clause-stamped
returns-in-Some-get_mut-clause-stamped g t c =
    let x = c.args.entry.now in
    let s = c.args.clock in
    let d = c.in-Some.dir.now in
    let n = c.in-Some-split_first.name.now in
    let p = c.in-Some-split_first.rest.now in
    let y = c.in-Some-get_mut.below.now in
    let holds : child_of x ≡ Some d = sym c.in-Some.ensures.value in
    let done : c.set_stamp.new.self ≡ record d { stamp = s } = c.set_stamp.ensures in
    let there : find_row n d.rows ≡ Some y = ap (λ (e : Directory). find_row n e.rows) (sym done) ∙ sym c.in-Some-get_mut.ensures.value in
    ap (λ (e : Directory). with_child (Some (record e { rows = set_row n c.look-seen.new.entry e.rows })) x) done
    ∙ ap (λ (z : Row). with_child (Some (record d { stamp = s; rows = set_row n z d.rows })) x) c.look-seen.ensures.stamped
    ∙ sym (ap (λ (q : Path). stamped_along q s x) c.in-Some-split_first.ensures.cases.0 ∙ stamped_along-found s x n p d holds y there)
