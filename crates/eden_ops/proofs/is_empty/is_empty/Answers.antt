use Rattle.std.proofs.Common.{◌≡◌, Some, sym, ap, ◌∙◌}
use Rattle.std.specs.Option.{option_and_then}
use Rattle.eden_model.specs.Trees.{Path}
use Rattle.eden_tree.specs.Directory.{child_of}
use Rattle.eden_tree.specs.Paths.{row_at}
use Rattle.eden_ops.proofs.Listed.{empty_shown, dir_shown}
use Rattle.eden_ops.proofs.is_empty.is_empty.Goals as goal

pub returns-clause-entries : goal.returns-clause-entries
returns-clause-entries g c =
    let p = c.args.path.now in
    let t = c.args.inodes.now in
    let loaded : option_and_then child_of (row_at p t.root) ≡ Some c.in-Some.dir.now = ap (λ (q : Path). option_and_then child_of (row_at q t.root))
    (sym c.as_slice.ensures) ∙ sym {b = option_and_then child_of (row_at c.as_slice.result.now t.root)} c.in-Some.ensures in
    empty_shown g.W.World g.F.Files p t c.shown_laws.ensures.below c.shown_laws.ensures.absent c.in-Some.dir.now c.holds.ensures.kept loaded c.count.result c.count.ensures.value

pub returns-clause-here : goal.returns-clause-here
returns-clause-here g c =
    let p = c.args.path.now in
    let t = c.args.inodes.now in
    let loaded : option_and_then child_of (row_at p t.root) ≡ Some c.in-Some.dir.now = ap (λ (q : Path). option_and_then child_of (row_at q t.root))
    (sym c.as_slice.ensures) ∙ sym {b = option_and_then child_of (row_at c.as_slice.result.now t.root)} c.in-Some.ensures in
    dir_shown g.W.World g.F.Files p t c.shown_laws.ensures.below c.shown_laws.ensures.absent c.in-Some.dir.now c.holds.ensures.kept loaded
