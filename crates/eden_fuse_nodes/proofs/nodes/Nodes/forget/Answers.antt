use Rattle.std.proofs.Common.{rules, ◌≡◌, Some, None, refl, ap, arith}
use Rattle.std.specs.Ordering.{nat_cmp, eq_by_cmp}
use Rattle.std.specs.BTreeMap.{get}
use Rattle.eden_fuse_nodes.proofs.Orders.{order, exact}
use Rattle.eden_fuse_nodes.specs.Tables.{known, place_in, less, dropped}
use Rattle.eden_fuse_nodes.proofs.Indexing.{left, stays, told_less, less_kept, less_gone, at_one}
use Rattle.eden_fuse_nodes.proofs.nodes.Nodes.forget.Goals as goal

pub invariant_of-self : goal.invariant_of-self
invariant_of-self c =
    let at = get order c.self.inside.places in
    let old = c.self.inside.nodes.entries in
    let next = c.self.inside.next in
    let id = c.args.id in
    let n = c.args.n in
    let x = c.self.invariant in
    let stays_known : dropped n (known old id) ≡ None = search rules in
    let hk = at_one (less n) (known old) (get nat_cmp c.lower.new.nodes) id c.lower.ensures.left in
    stays (eq_by_cmp order) exact at at (known old) (get nat_cmp c.lower.new.nodes) next next id (less n (known old id)) x
    hk (told_less next id n (known old id) (x.told id)) (omega arith) (λ q. refl) (less_kept n (known old id) stays_known)

pub invariant_of-self-2 : goal.invariant_of-self-2
invariant_of-self-2 c =
    let at = get order c.self.inside.places in
    let old = c.self.inside.nodes.entries in
    let next = c.self.inside.next in
    let id = c.args.id in
    let n = c.args.n in
    let x = c.self.invariant in
    let gone : dropped n (known old id) ≡ Some c.in-Some.known = search rules in
    let both = less_gone n (known old id) c.in-Some.known gone in
    let hk = at_one (less n) (known old) (get nat_cmp c.lower.new.nodes) id c.lower.ensures.left in
    left (eq_by_cmp order) exact at (get order c.leave.new.places) (known old) (get nat_cmp c.lower.new.nodes)
    next next id (less n (known old id)) x
    hk (told_less next id n (known old id) (x.told id)) (omega arith)
    c.in-Some.known.place (ap place_in both.1) c.leave.ensures (ap place_in both.0)
