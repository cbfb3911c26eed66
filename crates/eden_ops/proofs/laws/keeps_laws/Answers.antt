use Rattle.eden_ops.proofs.Steps.{keeps_shown, keeps_files, keeps_entries, keeps_counts}
use Rattle.eden_ops.proofs.Saving.{keeps_leaves}
use Rattle.eden_ops.proofs.Gaining.{keeps_gains}
use Rattle.eden_ops.proofs.Stamps.{keeps_stamps}
use Rattle.eden_ops.proofs.laws.keeps_laws.Goals as goal

pub returns : goal.returns
returns g c =
    record {
      shown = keeps_shown g.W.World g.F.Files c.shown_laws.ensures.stamps c.shown_laws.ensures.object_loads;
      files = keeps_files g.W.World g.F.Files;
      entries = keeps_entries g.W.World g.F.Files;
      counts = keeps_counts g.W.World g.F.Files;
      leaves = keeps_leaves g.W.World g.F.Files;
      stamps = keeps_stamps g.W.World g.F.Files;
      gains = keeps_gains g.W.World g.F.Files c.backing_laws.ensures.same_is_gained c.backing_laws.ensures.gains_more;
    }
