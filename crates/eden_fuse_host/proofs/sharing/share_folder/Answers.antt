use Rattle.std.proofs.Common.{◌≡◌, ◌∙◌, List, length, ap, sym, subst, arith}
use Rattle.eden_mount.specs.Settings.{Room}
use Rattle.eden_shared.specs.Passes.{AreEach, Carried}
use Rattle.eden_host.proofs.CallerLemmas.{are_newcomers, newcomers_each}
use Rattle.eden_host.specs.Sharing.{terms_at}
use Rattle.eden_fuse_host.proofs.sharing.share_folder.Goals as goal

pub show_passes-requires-clause-each : goal.show_passes-requires-clause-each
show_passes-requires-clause-each g c = λ κs within.
    let are = are_newcomers (terms_at g.T.Attempts.table c.args.room (g.H.History.limit c.args.history) c.args.table) _ _ c.in-Ok.ensures.passes c.in-Ok.ensures.count in
    subst (λ (ps : List Carried). AreEach ps (length g.J.Naming.names)) (sym are.1) (newcomers_each are.0 (length g.J.Naming.names))

pub show_passes-requires-clause-some : goal.show_passes-requires-clause-some
show_passes-requires-clause-some g c = λ κs within.
    let are = are_newcomers (terms_at g.T.Attempts.table c.args.room (g.H.History.limit c.args.history) c.args.table) _ _ c.in-Ok.ensures.passes c.in-Ok.ensures.count in
    let count = (newcomers_each are.0 (length g.J.Naming.names)).count in
    let same : length c.in-Ok.opened.1.items ≡ length g.J.Naming.names = ap length are.1 ∙ count in
    let passes : c.args.room.queue.passes ≡ c.requires.room.settings.passes = ap (λ (r : Room). r.queue.passes) c.requires.room.is in
    let some = c.requires.room.limits.passes.0 in
    omega (arith, same, c.in-Ok.ensures.count, passes, some)

pub show_passes-requires-clause-sources : goal.show_passes-requires-clause-sources
show_passes-requires-clause-sources g c = λ κs within.
    let are = are_newcomers (terms_at g.T.Attempts.table c.args.room (g.H.History.limit c.args.history) c.args.table) _ _ c.in-Ok.ensures.passes c.in-Ok.ensures.count in
    let count = (newcomers_each are.0 (length g.J.Naming.names)).count in
    let same : length c.in-Ok.opened.1.items ≡ length g.J.Naming.names = ap length are.1 ∙ count in
    omega (arith, same, c.in-Ok.ensures.count, c.requires.sources)

pub returns-in-Ok-clause-shown : goal.returns-in-Ok-clause-shown
returns-in-Ok-clause-shown g c =
    c.show_passes.ensures (terms_at g.T.Attempts.table c.args.room (g.H.History.limit c.args.history) c.args.table) c.in-Ok.ensures.passes
