use Rattle.std.proofs.Common.{rules, ◌≡◌, ◌≢◌, [], ◌∷◌, length, Some, None, ap, subst, arith, length-append}
use Rattle.std.specs.BTreeMap.{get}
use Rattle.eden_model.specs.Paths.{most_names}
use Rattle.eden_fuse_nodes.specs.Tables.{Table, place_of, root}
use Rattle.eden_fuse_nodes.specs.Ways.{IsBelowRoot}
use Rattle.eden_fuse_nodes.proofs.Orders.{order}
use Rattle.eden_fuse_nodes.proofs.Changes.{root_nowhere}
use Rattle.eden_fuse_nodes.proofs.Walks.{walked_root, walked_lost, walked_step, walked_far, walked_off}
use Rattle.eden_fuse_nodes.proofs.nodes.Nodes.way_up.Goals as goal

pub returns-then-node-eq-ROOT : goal.returns-then-node-eq-ROOT
returns-then-node-eq-ROOT c =
    let t = c.args.self.now in
    let l = c.loop-height in
    let bare : place_of t root ≡ None = subst (λ (s : Table). place_of s root ≡ None) c.self.view_is
    (root_nowhere (get order c.self.inside.places) c.self.inside.nodes.entries c.self.inside.next c.self.invariant) in
    walked_root t c.args.id l.node l.up.items l.invariant.0 (omega (arith, c.if-node-eq-ROOT.true)) bare

pub returns-in-None : goal.returns-in-None
returns-in-None c =
    let t = c.args.self.now in
    let l = c.loop-height in
    let off : l.node ≢ root = λ e. omega (arith, e, c.if-node-eq-ROOT.false) in
    let here : place_of t l.node ≡ None = search rules in
    walked_lost t c.args.id l.node l.up.items l.invariant.0 off here

pub loop-height-preserved : goal.loop-height-preserved
loop-height-preserved c =
    let t = c.args.self.now in
    let l = c.loop-height in
    let p = c.in-Some.place.now in
    let name = c.in_ok-copy.field-0 in
    let off : l.node ≢ root = λ e. omega (arith, e, c.if-node-eq-ROOT.false) in
    let here : place_of t l.node ≡ Some p = search rules in
    let named : name ≡ p.name = c.in_ok-copy.ensures in
    let more = c.in_ok-push.ensures.items in (
      walked_step t c.args.id l.node l.up.items l.invariant.0 p off here name c.push.new.self.items named more,
      omega (arith, l.invariant.1, ap length more, length-append l.up.items (name ∷ [])),
    )

pub returns-then-reaches_root : goal.returns-then-reaches_root
returns-then-reaches_root c =
    let l = c.loop-height in
    let up : IsBelowRoot c.args.self.now l.node = c.if-reaches_root.ensures in
    walked_far c.args.self.now c.args.id l.node l.up.items l.invariant.0 most_names (omega (arith, l.invariant.1, c.loop-height-test.false)) up.0 up.1

pub returns : goal.returns
returns c =
    let l = c.loop-height in
    let off : ¬ IsBelowRoot c.args.self.now l.node = c.if-reaches_root.ensures in
    walked_off c.args.self.now c.args.id l.node l.up.items l.invariant.0 (λ rest m. off (rest, m))
