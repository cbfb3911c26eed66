use Rattle.std.proofs.Common.{ℕ, sym, ap, subst}
use Rattle.eden_mount.specs.Core.{Core}
use Rattle.eden_shared.specs.Opening.{AreTied}
use Rattle.eden_host.proofs.Beginning.{unused}
use Rattle.eden_host.proofs.sharing.share.Goals as goal

pub open-requires-clause-unused : goal.open-requires-clause-unused
open-requires-clause-unused g c = unused c.args.table c.args.room (g.H.History.limit c.args.history) c.new-mount.result c.requires.room c.new-mount.ensures.value

pub open-requires-clause-ties : goal.open-requires-clause-ties
open-requires-clause-ties g c =
    subst (λ (n : ℕ). AreTied c.args.ties.lanes.items c.args.ties.ends.items n) (sym (ap (λ (m : Core _). m.queue.passes) c.new-mount.ensures.value)) c.requires.ties
