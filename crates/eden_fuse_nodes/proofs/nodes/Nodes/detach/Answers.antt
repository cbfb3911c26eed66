use Rattle.std.proofs.Common.{rules, ◌≡◌, Some, None, refl, arith}
use Rattle.std.specs.Ordering.{nat_cmp, eq_by_cmp}
use Rattle.std.specs.BTreeMap.{get}
use Rattle.eden_fuse_nodes.proofs.Orders.{order, exact}
use Rattle.eden_fuse_nodes.specs.Tables.{known, nowhere}
use Rattle.eden_fuse_nodes.proofs.Indexing.{taken, unchanged, nothing_cleared, told_nowhere, at_one}
use Rattle.eden_fuse_nodes.proofs.Changes.{place-nowhere}
use Rattle.eden_fuse_nodes.proofs.nodes.Nodes.detach.Goals as goal

pub invariant_of-self : goal.invariant_of-self
invariant_of-self c =
    let at = get order c.self.inside.places in
    let old = c.self.inside.nodes.entries in
    let p = c.args.place.now in
    let bare : at p ≡ None = search rules in
    unchanged at (get order c.clear.new.places) (known old) (known old) c.self.inside.next c.self.invariant
    (nothing_cleared (eq_by_cmp order) exact at (get order c.clear.new.places) p bare c.clear.ensures.gone) (λ i. refl)

pub invariant_of-self-2 : goal.invariant_of-self-2
invariant_of-self-2 c =
    let at = get order c.self.inside.places in
    let old = c.self.inside.nodes.entries in
    let next = c.self.inside.next in
    let id = c.in_ok-id.id in
    let x = c.self.invariant in
    let p = c.args.place.now in
    let here : at p ≡ Some id = search rules in
    let hk = at_one nowhere (known old) (get nat_cmp c.unsettle.new.nodes) id c.unsettle.ensures in
    taken (eq_by_cmp order) exact at (get order c.clear.new.places) (known old) (get nat_cmp c.unsettle.new.nodes)
    next next id (nowhere (known old id)) x
    hk (told_nowhere next id (known old id) (x.told id)) (omega arith)
    p c.clear.ensures.gone (place-nowhere (known old id)) here
