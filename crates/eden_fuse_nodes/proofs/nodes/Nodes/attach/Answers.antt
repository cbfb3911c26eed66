use Rattle.std.proofs.Common.{◌≡◌, ◌∙◌, Some, None, IsSome, sym, ap, subst, arith}
use Rattle.std.specs.Ordering.{nat_cmp, eq_by_cmp}
use Rattle.std.specs.BTreeMap.{get}
use Rattle.eden_fuse_nodes.proofs.Orders.{order, exact}
use Rattle.eden_fuse_nodes.specs.Tables.{Table, known, place_of, moved, IsBare}
use Rattle.eden_fuse_nodes.proofs.Indexing.{put, told_moved, at_one}
use Rattle.eden_fuse_nodes.proofs.Changes.{place-moved, bare_place}
use Rattle.eden_fuse_nodes.proofs.nodes.Nodes.attach.Goals as goal

pub invariant_of-self-2 : goal.invariant_of-self-2
invariant_of-self-2 c =
    let at = get order c.self.inside.places in
    let old = c.self.inside.nodes.entries in
    let next = c.self.inside.next in
    let id = c.args.id in
    let x = c.self.invariant in
    let p = c.args.place in
    let q = c.in_ok-copy.copy in
    let back = sym c.self.view_is in
    let bare : IsBare old p = subst (λ (t : Table). IsBare t p) back c.requires.bare in
    let there : IsSome (known old id) = subst (λ (t : Table). IsSome (known t id)) back c.requires.is_known in
    let nowhere_ : place_of old id ≡ None = subst (λ (t : Table). place_of t id ≡ None) back c.requires.nowhere in
    let hk = at_one (moved q) (known old) (get nat_cmp c.resettle.new.nodes) id c.resettle.ensures in
    put (eq_by_cmp order) exact at (get order c.settle.new.places) (known old) (get nat_cmp c.resettle.new.nodes)
    next next id (moved q (known old id)) x
    hk (told_moved next id (known old id) q (x.told id)) (omega arith)
    p c.in_ok-settle.ensures.ok (place-moved (known old id) q there ∙ ap (λ r. Some r) c.in_ok-copy.ensures)
    (bare_place at old next x p bare) nowhere_
