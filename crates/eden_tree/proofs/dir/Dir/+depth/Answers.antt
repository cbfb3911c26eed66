use Rattle.std.proofs.Common.{◌≡◌, ◌<◌, length, get_or, ap, rules, arith}
use Rattle.eden_tree.specs.Directory.{directory_size}
use Rattle.eden_tree.proofs.Children.{child_smaller, row_size-held}
use Rattle.eden_tree.proofs.dir.Dir.+depth.Goals as goal

pub depth-requires : goal.depth-requires
depth-requires g t c κs within =
    let es = c.self.inside.items.items in
    let i = c.loop-entry.entry-index in
    let x = c.loop-entry-item.result in
    let here : x ≡ get_or es i x = rw c.deref-entry-items.ensures.value at c.loop-entry-item.is in
    let inside : i < length es = rw c.deref-entry-items.ensures.value at c.loop-entry-test.true in
    let falls = child_smaller es i x inside here in
    let one = row_size-held _ _ _ _ x.1 c.entry.view_is c.in-Some.child c.in-Some.is in
    let lent = ap directory_size c.deref.ensures in
    let whole = ap directory_size c.self.view_is in
    let smaller : directory_size c.deref.result.now < directory_size c.args.self.now = omega (arith, falls, one, lent, whole) in
    search rules
