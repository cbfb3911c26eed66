use Rattle.std.proofs.Common.{rules, ◌≡◌, true, false}
use Rattle.std.specs.Option.{is_some}
use Rattle.eden_overlay.specs.Held.{root_file}
use Rattle.eden_snapshot.specs.Changes.{untouched}
use Rattle.eden_snapshot.proofs.Joined.{none_there}
use Rattle.eden_snapshot.proofs.Differing.{all_told, all_so_far, whatever}
use Rattle.eden_snapshot.proofs.Exactly.{exact, truly}
use Rattle.eden_snapshot.proofs.comparing.changes.Goals as goal

pub returns-then-not-branch-clause-told : goal.returns-then-not-branch-clause-told
returns-then-not-branch-clause-told g c = λ h.
    let F = g.F.Files.stored c.args.overlay.now in
    let told = c.in_ok-is_rooted.ensures.told h in
    let none : is_some (root_file F) ≡ false = first_of (cc, search rules) in
    untouched (g.C.ChangeSink.told c.args.sink.now) (none_there (root_file F) none)

pub returns-clause-told : goal.returns-clause-told
returns-clause-told g c = λ h.
    let F = g.F.Files.stored c.args.overlay.now in
    let told = c.in_ok-is_rooted.ensures.told h in
    let some : is_some (root_file F) ≡ true = first_of (cc, search rules) in
    all_told F (g.F.Files.stored c.is_rooted.new.overlay) g.W.World.repository c.args.root c.new-trail.result c.in_ok-entries.entries.items
    (g.C.ChangeSink.told c.args.sink.now) (g.C.ChangeSink.told c.directory.new.sink) (c.is_rooted.ensures.unchanged h) c.new-trail.ensures some
    (c.in_ok-entries.ensures h) (c.in_ok-directory.ensures.told h)

pub returns-then-not-branch-clause-exact : goal.returns-then-not-branch-clause-exact
returns-then-not-branch-clause-exact g c = λ h has.
    let F = g.F.Files.stored c.args.overlay.now in
    let told = c.in_ok-is_rooted.ensures.told h in
    let none : is_some (root_file F) ≡ false = first_of (cc, search rules) in
    let heard = g.C.ChangeSink.told c.args.sink.now in
    exact g.W.World.repository F has c.args.root heard heard (untouched heard (none_there (root_file F) none))

pub returns-clause-exact : goal.returns-clause-exact
returns-clause-exact g c = λ h has.
    let F = g.F.Files.stored c.args.overlay.now in
    let told = c.in_ok-is_rooted.ensures.told h in
    let some : is_some (root_file F) ≡ true = first_of (cc, search rules) in
    exact g.W.World.repository F has c.args.root (g.C.ChangeSink.told c.args.sink.now) (g.C.ChangeSink.told c.directory.new.sink)
    (all_told F (g.F.Files.stored c.is_rooted.new.overlay) g.W.World.repository c.args.root c.new-trail.result c.in_ok-entries.entries.items
    (g.C.ChangeSink.told c.args.sink.now) (g.C.ChangeSink.told c.directory.new.sink) (c.is_rooted.ensures.unchanged h) c.new-trail.ensures some
    (c.in_ok-entries.ensures h) (c.in_ok-directory.ensures.told h))

pub returns-in_err-directory-clause-truly : goal.returns-in_err-directory-clause-truly
returns-in_err-directory-clause-truly g c = λ h. whatever c.from_residual-in_err-directory.result (λ has.
    let F = g.F.Files.stored c.args.overlay.now in
    let told = c.in_ok-is_rooted.ensures.told h in
    let some : is_some (root_file F) ≡ true = first_of (cc, search rules) in
    truly g.W.World.repository F has c.args.root (g.C.ChangeSink.told c.args.sink.now) (g.C.ChangeSink.told c.directory.new.sink)
    (all_so_far F (g.F.Files.stored c.is_rooted.new.overlay) g.W.World.repository c.args.root c.new-trail.result c.in_ok-entries.entries.items
    (g.C.ChangeSink.told c.args.sink.now) (g.C.ChangeSink.told c.directory.new.sink) (c.is_rooted.ensures.unchanged h) c.new-trail.ensures some
    (c.in_ok-entries.ensures h) (c.in_err-directory.ensures.so_far h)))
