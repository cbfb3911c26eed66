use Rattle.std.proofs.Common.{◌∙◌, subst}
use Rattle.eden_model.specs.Repository.{Whole}
use Rattle.eden_snapshot.specs.Commits.{submodule_at}
use Rattle.eden_snapshot.specs.Ordering.{GrowsInOrder}
use Rattle.eden_snapshot.specs.Pruning.{IsPruned}
use Rattle.eden_snapshot.specs.Showing.{FilesShow}
use Rattle.eden_snapshot.specs.Written.{WritesTop}
use Rattle.mountd.proofs.snapshot.take.Goals as goal

pub returns : goal.returns
returns g c =
    let root = c.args.root in
    let id = c.in_ok-id.id in
    let old = g.K.Sink.filled c.args.sink.now in
    let new = g.K.Sink.filled c.snapshot.new.sink in
    let before = g.F.Files.stored c.args.overlay.now in
    let R = g.W.World.repository in
    let seen = c.in_ok-expect_closed.ensures in
    let taken = c.in_ok-id.ensures in
    record {
      asks = record {
        closed = seen.closed;
        refused = tt;
        unchanged = λ h. taken.unchanged h ∙ seen.unchanged h;
      };
      shown = λ h S has. subst (λ F. IsPruned (FilesShow S root F) (Whole S id)) (seen.unchanged h) (taken.shown h S has);
      written = λ h. subst (λ top. WritesTop before (submodule_at R top) root id old new) c.new-submodules.ensures
          (subst (λ F. WritesTop F (submodule_at R c.new-submodules.result.root) root id old new) (seen.unchanged h) (taken.written h));
      ordered = λ h. subst (λ F. GrowsInOrder F old.kept new.kept) (seen.unchanged h) (taken.ordered h);
    }
