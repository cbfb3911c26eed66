use Rattle.eden_overlay_format.proofs.Bodies.{made_seen}
use Rattle.eden_overlay_format.proofs.directory_body.DirectoryBody.of.Goals as goal

pub returns : goal.returns
returns c =
    made_seen c.args.listing c.into_counted-file.result.1 c.into_counted-file.result.0.items c.into_counted-file.ensures.each c.into_counted-file.ensures.counted
    c.into_counted-file.ensures.body
