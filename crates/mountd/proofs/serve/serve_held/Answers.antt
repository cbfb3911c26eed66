use Rattle.mountd.proofs.Opened.{kept_in}
use Rattle.mountd.proofs.serve.serve_held.Goals as goal

pub returns : goal.returns
returns g c = kept_in _ _ _ _ _ _ c.hold_overlay.result _ _ c.take.result c.args.options.mount.overlay c.args.options.mount
    _ c.hold_overlay.ensures c.in-Ok.is c.in-Some.is c.take.ensures.value c.serve_folder-status.ensures
