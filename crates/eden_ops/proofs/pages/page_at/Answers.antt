use Rattle.std.proofs.Common.{◌≡◌, Some, sym, ap, ◌∙◌}
use Rattle.std.specs.Option.{option_and_then}
use Rattle.eden_model.specs.Trees.{Path}
use Rattle.eden_tree.specs.Directory.{child_of}
use Rattle.eden_tree.specs.Paths.{row_at}
use Rattle.eden_ops.proofs.Listed.{paged}
use Rattle.eden_ops.proofs.pages.page_at.Goals as goal

pub returns : goal.returns
returns g c =
    let p = c.args.path.now in
    let t = c.args.inodes.now in
    let loaded : option_and_then child_of (row_at p t.root) ≡ Some c.in-Some.dir.now = ap (λ (q : Path). option_and_then child_of (row_at q t.root)) (sym c.as_slice.ensures) ∙ sym c.in-Some.ensures in
    paged g.W.World g.F.Files p t c.args.after.now c.args.limit c.shown_laws.ensures.below c.shown_laws.ensures.absent c.in-Some.dir.now c.holds.ensures.kept loaded c.page.result c.page.ensures
