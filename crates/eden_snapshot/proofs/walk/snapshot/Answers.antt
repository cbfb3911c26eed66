use Rattle.std.proofs.Common.{rules, ◌≡◌, true, false}
use Rattle.std.specs.Option.{is_some}
use Rattle.std.proofs.lemmas.Result.{IfOk-weaker}
use Rattle.eden_overlay.specs.Held.{root_file}
use Rattle.eden_snapshot.specs.Written.{untouched}
use Rattle.eden_snapshot.proofs.Joined.{own_top, none_there}
use Rattle.eden_snapshot.proofs.Ordered.{top_ordered}
use Rattle.eden_snapshot.proofs.Thinned.{top_pruned}
use Rattle.eden_snapshot.proofs.walk.snapshot.Goals as goal

pub returns-then-not-branch-clause-written : goal.returns-then-not-branch-clause-written
returns-then-not-branch-clause-written g c = λ h.
    let F = g.F.Files.stored c.args.overlay.now in
    let K = g.M.Submodules.known c.args.submodules.now in
    let told = c.in_ok-is_rooted.ensures.told h in
    let none : is_some (root_file F) ≡ false = first_of (cc, search rules) in
    untouched (g.S.Sink.filled c.args.sink.now) (none_there (root_file F) none)

pub returns-then-not-branch-clause-shown : goal.returns-then-not-branch-clause-shown
returns-then-not-branch-clause-shown g c = λ h R has.
    let F = g.F.Files.stored c.args.overlay.now in
    let K = g.M.Submodules.known c.args.submodules.now in
    let kept = g.S.Sink.filled c.args.sink.now in
    let told = c.in_ok-is_rooted.ensures.told h in
    let none : is_some (root_file F) ≡ false = first_of (cc, search rules) in
    top_pruned R F K c.args.root c.args.root kept kept (untouched kept (none_there (root_file F) none)) has

pub returns-clause-written : goal.returns-clause-written
returns-clause-written g c = λ h.
    let F = g.F.Files.stored c.args.overlay.now in
    let K = g.M.Submodules.known c.args.submodules.now in
    let told = c.in_ok-is_rooted.ensures.told h in
    let some : is_some (root_file F) ≡ true = first_of (cc, search rules) in
    IfOk-weaker c.hand_tree.result _ _
    (λ id e.
    own_top F (g.F.Files.stored c.is_rooted.new.overlay) K c.args.root id c.new-trail.result c.in_ok-entries.entries.items c.as_slice.result.now (g.S.Sink.filled c.args.sink.now)
    (g.S.Sink.filled c.directory.new.sink) (g.S.Sink.filled c.hand_tree.new.sink) (c.is_rooted.ensures.unchanged h) c.new-trail.ensures some (c.in_ok-entries.ensures.written h)
    c.as_slice.ensures.value e)
    (c.hand_tree.ensures h)

pub returns-clause-shown : goal.returns-clause-shown
returns-clause-shown g c = λ h.
    let F = g.F.Files.stored c.args.overlay.now in
    let K = g.M.Submodules.known c.args.submodules.now in
    let old = g.S.Sink.filled c.args.sink.now in
    let new = g.S.Sink.filled c.hand_tree.new.sink in
    let told = c.in_ok-is_rooted.ensures.told h in
    let some : is_some (root_file F) ≡ true = first_of (cc, search rules) in
    IfOk-weaker c.hand_tree.result _ _
    (λ id e R has.
    top_pruned R F K c.args.root id old new
    (own_top F (g.F.Files.stored c.is_rooted.new.overlay) K c.args.root id c.new-trail.result c.in_ok-entries.entries.items c.as_slice.result.now old
    (g.S.Sink.filled c.directory.new.sink) new (c.is_rooted.ensures.unchanged h) c.new-trail.ensures some (c.in_ok-entries.ensures.written h) c.as_slice.ensures.value e)
    has)
    (c.hand_tree.ensures h)

pub returns-then-not-branch-clause-ordered : goal.returns-then-not-branch-clause-ordered
returns-then-not-branch-clause-ordered g c = λ h.
    let F = g.F.Files.stored c.args.overlay.now in
    let K = g.M.Submodules.known c.args.submodules.now in
    let kept = g.S.Sink.filled c.args.sink.now in
    let told = c.in_ok-is_rooted.ensures.told h in
    let none : is_some (root_file F) ≡ false = first_of (cc, search rules) in
    top_ordered F K c.args.root c.args.root kept kept (untouched kept (none_there (root_file F) none))

pub returns-clause-ordered : goal.returns-clause-ordered
returns-clause-ordered g c = λ h.
    let F = g.F.Files.stored c.args.overlay.now in
    let K = g.M.Submodules.known c.args.submodules.now in
    let old = g.S.Sink.filled c.args.sink.now in
    let new = g.S.Sink.filled c.hand_tree.new.sink in
    let told = c.in_ok-is_rooted.ensures.told h in
    let some : is_some (root_file F) ≡ true = first_of (cc, search rules) in
    IfOk-weaker c.hand_tree.result _ _
    (λ id e.
    top_ordered F K c.args.root id old new
    (own_top F (g.F.Files.stored c.is_rooted.new.overlay) K c.args.root id c.new-trail.result c.in_ok-entries.entries.items c.as_slice.result.now old
    (g.S.Sink.filled c.directory.new.sink) new (c.is_rooted.ensures.unchanged h) c.new-trail.ensures some (c.in_ok-entries.ensures.written h) c.as_slice.ensures.value e))
    (c.hand_tree.ensures h)
