use Rattle.std.proofs.Common.{rules, ◌≡◌, ◌+◌, false, Some, Result, Ok, Err, is_err, OnOk, sym, ap, subst, arith, if◌then◌else◌}
use Rattle.std.proofs.lemmas.Bool.{false≢true}
use Rattle.std.specs.Ordering.{nat_cmp, eq_by_cmp}
use Rattle.std.specs.BTreeMap.{get}
use Rattle.eden_fuse_nodes.proofs.Orders.{order, exact}
use Rattle.eden_fuse_nodes.specs.declared.place.Place.{Place}
use Rattle.eden_fuse_nodes.specs.Tables.{Table, place_in, standing, IsBare}
use Rattle.eden_fuse_nodes.proofs.Indexing.{put, told_standing}
use Rattle.eden_fuse_nodes.proofs.Changes.{free_next, bare_place}
use Rattle.eden_fuse_nodes.proofs.nodes.Nodes.add.Goals as goal

-- what holds of a success
ok_of : {T E : Type 0} (P : Type 0) (r : Result T E) → is_err r ≡ false → OnOk r P → P
ok_of P (Ok x) e h = h
ok_of P (Err x) e h = absurd (false≢true (sym e))

pub invariant_of-self-2 : goal.invariant_of-self-2
invariant_of-self-2 c =
    let at = get order c.self.inside.places in
    let old = c.self.inside.nodes.entries in
    let next = c.self.inside.next in
    let x = c.self.invariant in
    let p = c.args.place in
    let fine : is_err c.settle.result ≡ false = search rules in
    let settled : (q : Place) → get order c.settle.new.places q ≡ (if eq_by_cmp order p q then Some next else at q)
    = ok_of ((q : Place) → get order c.settle.new.places q ≡ (if eq_by_cmp order p q then Some next else at q)) c.settle.result fine c.settle.ensures.ok in
    let bare : IsBare old p = subst (λ (t : Table). IsBare t p) (sym c.self.view_is) c.requires in
    put (eq_by_cmp order) exact at (get order c.settle.new.places) (get nat_cmp c.self.inside.nodes) (get nat_cmp c.add.new.nodes)
    next (next + 1) next (standing 1 c.in_ok-copy.field-0) x
    c.in_ok-add.ensures.ok (told_standing 1 (next + 1) next c.in_ok-copy.field-0 x.first (omega arith) (omega arith)) (omega arith)
    p settled (ap (λ q. Some q) c.in_ok-copy.ensures)
    (bare_place at old next x p bare) (ap place_in (free_next at old next x))
