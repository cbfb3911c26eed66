use Rattle.std.proofs.Common.{sym, subst, ap, ◌∙◌}
use Rattle.eden_model.specs.declared.id.Id.{Id}
use Rattle.eden_checkout.specs.Opening.{files_show}
use Rattle.eden_model.specs.Failures.{Rose}
use Rattle.eden_stdio_life.proofs.opening.close.Goals as goal

pub returns-in-Err : goal.returns-in-Err
returns-in-Err g c = λ N backing.
    let e = c.in-Err.ensures in
    record {
      left = c.in-Err.table;
      over = c.abandon.ensures.files;
      shown = e.shown;
      commit = e.rest.1.1;
      next = e.rest.0;
      device = λ is. subst (λ x. Rose (g.F.Files.failures c.args.table.inodes.files) (g.F.Files.failures x)) (sym c.abandon.ensures.files) (e.device is);
      sound = c.abandon.ensures.sound;
      saved = λ h all.
          ap (λ (root : Id). files_show g.W.World.repository root (g.F.Files.stored c.abandon.result)) (sym e.rest.1.1)
          ∙ c.abandon.ensures.shown h all ∙ e.shown h;
    }
