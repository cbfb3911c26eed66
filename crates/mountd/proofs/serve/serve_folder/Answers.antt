use Rattle.mountd.proofs.Opened.{of_kept}
use Rattle.mountd.proofs.serve.serve_folder.Goals as goal

pub returns : goal.returns
returns g c = of_kept _ _ _ _ c.args.options.mount _ _ c.serve_files.ensures
