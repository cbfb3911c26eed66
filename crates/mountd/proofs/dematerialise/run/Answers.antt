use Rattle.std.proofs.Common.{◌≡◌, ◌∙◌, ap, inl, inr, subst, OnErr, OnOk}
use Rattle.eden_overlay.specs.Files.{Stored}
use Rattle.eden_snapshot.specs.Closing.{AreClosedOn, IsClosedFault}
use Rattle.eden_dematerialise.specs.Dematerialising.{AreDematerialised, AreSoFar, ShowTheSame}
use Rattle.mountd.proofs.dematerialise.run.Goals as goal

-- what becomes of the files that were looked at is told of those that came
pub returns-in-Ok : goal.returns-in-Ok
returns-in-Ok g c =
    let R = g.W.World.repository in
    let moving = c.args.moving in
    let stored = g.F.Files.stored in
    let seen = c.in-Ok.ensures in
    let run = c.move_files.ensures in
    let left = stored run.left in
    let same : g.W.World.honest → stored c.into_files.result ≡ stored moving.files =
    λ h. ap stored c.into_files.ensures ∙ (seen.unchanged h ∙ ap stored c.new-overlay.ensures) in
    inr (
      λ h. subst (λ (F : g.row.F.Denot). AreClosedOn moving.root (stored F)) c.new-overlay.ensures (seen.closed h),
      record {
        left = run.left;
        outcome = run.outcome;
        same = λ h. subst (λ (F : Stored). ShowTheSame R F left) (same h) (run.same h);
        done = λ h. subst (λ (F : Stored). OnOk run.outcome (AreDematerialised R moving.to F left)) (same h) (run.done h);
        so_far = λ h. subst (λ (F : Stored). OnErr run.outcome (AreSoFar R moving.to F left)) (same h) (run.so_far h);
        stored = run.stored;
        told = run.told;
      },
    )

pub returns-in-Err : goal.returns-in-Err
returns-in-Err g c =
    let moving = c.args.moving in
    let stored = g.F.Files.stored in
    let seen = c.in-Err.ensures in
    let left = c.expect_closed.new.overlay in
    inl (record {
      left = left;
      fault = c.in-Err.fault;
      refused = subst (λ (F : g.row.F.Denot). IsClosedFault g.W.World.honest moving.root (stored F) (g.F.Files.failures F)
          (g.F.Files.failures left) c.in-Err.fault) c.new-overlay.ensures seen.refused;
      unchanged = λ h. seen.unchanged h ∙ ap stored c.new-overlay.ensures;
      told = c.unopened.ensures;
    })
