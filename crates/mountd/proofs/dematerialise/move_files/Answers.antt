use Rattle.std.proofs.Common.{Result, Ok, Err, ◌≡◌, ◌∙◌, ap, sym, subst, OnErr, OnOk}
use Rattle.eden_overlay.specs.Files.{Stored}
use Rattle.eden_dematerialise.specs.Dematerialising.{AreDematerialised, AreSoFar, ShowTheSame}
use Rattle.mountd.proofs.dematerialise.move_files.Goals as goal

pub returns : goal.returns
returns g c =
    let R = g.W.World.repository in
    let stored = g.F.Files.stored in
    let F = stored c.args.files in
    let done = c.dematerialise-outcome in
    let left = c.sync-stored.new.self in
    let same : g.W.World.honest → stored done.new.files ≡ stored left = λ h. sym (c.sync-stored.ensures.unchanged h) in
    record {
      left = left;
      outcome = done.result;
      same = λ h. subst (λ (G : Stored). ShowTheSame R F G) (same h) (done.ensures.same h);
      done = λ h. subst (λ (G : Stored). OnOk done.result (AreDematerialised R c.args.to F G)) (same h) (done.ensures.done h);
      so_far = λ h. subst (λ (G : Stored). OnErr done.result (AreSoFar R c.args.to F G)) (same h) (done.ensures.so_far h);
      stored = c.sync-stored.result;
      told = c.dematerialised.ensures;
    }
