use Rattle.std.proofs.Common.{rules, ◌≡◌, Some, refl, subst, arith}
use Rattle.std.specs.Ordering.{nat_cmp, eq_by_cmp}
use Rattle.std.specs.BTreeMap.{get}
use Rattle.eden_fuse_nodes.proofs.Orders.{order, exact}
use Rattle.eden_fuse_nodes.specs.Tables.{Table, known, once_more, Learns}
use Rattle.eden_fuse_nodes.proofs.Indexing.{stays, told_once, at_one}
use Rattle.eden_fuse_nodes.proofs.Changes.{place-once_more, learns_again}
use Rattle.eden_fuse_nodes.proofs.nodes.Nodes.learn.Goals as goal

pub invariant_of-self-in-Some : goal.invariant_of-self-in-Some
invariant_of-self-in-Some c =
    let at = get order c.self.inside.places in
    let old = c.self.inside.nodes.entries in
    let next = c.self.inside.next in
    let id = c.in-Some.id in
    let x = c.self.invariant in
    let hk = at_one once_more (known old) (get nat_cmp c.raise.new.nodes) id c.in_ok-raise-in-Some.ensures.ok in
    stays (eq_by_cmp order) exact at at (known old) (get nat_cmp c.raise.new.nodes) next next id (once_more (known old id)) x
    hk (told_once next id (known old id) (x.told id)) (omega arith) (λ q. refl) (place-once_more (known old id))

pub returns-in_ok-raise-in-Some-clause-ok : goal.returns-in_ok-raise-in-Some-clause-ok
returns-in_ok-raise-in-Some-clause-ok c =
    let old = c.self.inside.nodes.entries in
    let new = c.raise.new.nodes.entries in
    let id = c.in-Some.id in
    let p = c.args.place in
    let here : get order c.self.inside.places p ≡ Some id = search rules in
    let learns : Learns old new id p = learns_again old new id p (c.self.invariant.stands p id here) c.in_ok-raise-in-Some.ensures.ok in
    subst (λ (t : Table). Learns t new id p) c.self.view_is learns
