use Rattle.std.proofs.Common.{rules, ◌≡◌, drop, ap, ◌∙◌}
use Rattle.eden_overlay_format.specs.Directory.{directory_body}
use Rattle.eden_overlay_format.proofs.Bodies.{stored}
use Rattle.eden_overlay_format.proofs.directory_body.DirectoryBody.bytes.Goals as goal

pub returns : goal.returns
returns c =
    let behind : c.split_at.result.1.now ≡ drop 64 c.self.inside.file.items = search rules in
    behind ∙ stored c.self.inside.count c.self.inside.file.items c.self.invariant ∙ ap directory_body c.self.view_is
