use Rattle.std.proofs.Common.{rules, ◌≡◌, ◌≢◌, ◌≤◌, inl, inr, length, Some, None, [], ◌∷◌, ap, refl, sym, subst, arith, length-append, ◌++◌, ◌∙◌}
use Rattle.std.proofs.lemmas.Option.{none-some}
use Rattle.std.specs.BTreeMap.{get}
use Rattle.eden_fuse_nodes.specs.Tables.{Table, IsNodeTable, place_of, root}
use Rattle.eden_fuse_nodes.proofs.Orders.{order}
use Rattle.eden_fuse_nodes.proofs.Changes.{is_table, root_nowhere}
use Rattle.eden_fuse_nodes.proofs.Heights.{ended}
use Rattle.eden_fuse_nodes.proofs.Walks.{walked_step}
use Rattle.eden_fuse_nodes.proofs.nodes.Nodes.reaches_root.Goals as goal

pub returns-in-None : goal.returns-in-None
returns-in-None c =
    let t = c.args.self.now in
    let l = c.loop-height in
    let table : IsNodeTable t = subst (λ (s : Table). IsNodeTable s) c.self.view_is
    (is_table (get order c.self.inside.places) c.self.inside.nodes.entries c.self.inside.next c.self.invariant) in
    let here : place_of t l.node ≡ None = search rules in
    ended t table c.args.id l.node l.invariant.0 l.invariant.1 (inl here)

pub loop-height-preserved : goal.loop-height-preserved
loop-height-preserved c =
    let t = c.args.self.now in
    let l = c.loop-height in
    let p = c.in-Some.place.now in
    let up = l.invariant.0 in
    let bare : place_of t root ≡ None = subst (λ (s : Table). place_of s root ≡ None) c.self.view_is
    (root_nowhere (get order c.self.inside.places) c.self.inside.nodes.entries c.self.inside.next c.self.invariant) in
    let here : place_of t l.node ≡ Some p = search rules in
    let off : l.node ≢ root = λ e. none-some p (sym (ap (place_of t) e ∙ bare) ∙ here) in (
      up ++ p.name ∷ [],
      walked_step t c.args.id l.node up l.invariant.1 p off here p.name (up ++ p.name ∷ []) refl refl,
      omega (arith, l.invariant.2, length-append up (p.name ∷ [])),
    )

pub returns : goal.returns
returns c =
    let t = c.args.self.now in
    let l = c.loop-height in
    let table : IsNodeTable t = subst (λ (s : Table). IsNodeTable s) c.self.view_is
    (is_table (get order c.self.inside.places) c.self.inside.nodes.entries c.self.inside.next c.self.invariant) in
    let many : length t ≤ c.len-height-end.result = search rules in
    ended t table c.args.id l.node l.invariant.0 l.invariant.1
    (inr (omega (arith, many, c.loop-height-test.false, l.invariant.2)))
