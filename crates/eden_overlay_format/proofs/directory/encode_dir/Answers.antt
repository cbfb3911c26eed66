use Rattle.std.proofs.Common.{rules, ◌≡◌, ◌∙◌, ap}
use Rattle.eden_overlay_format.specs.declared.header.Identifier.TheVariants as identifier
use Rattle.eden_overlay_format.specs.Stored.{body_in, stored_as}
use Rattle.eden_overlay_format.specs.Directory.{directory_body}
use Rattle.eden_overlay_format.proofs.Headers.{written_found}
use Rattle.eden_overlay_format.proofs.directory.encode_dir.Goals as goal

pub returns-clause-read_again : goal.returns-clause-read_again
returns-clause-read_again c =
    let all : c.into_file.result.items ≡ stored_as identifier.Directory (directory_body c.args.entries.now) = search rules in
    record { stored = ap (body_in identifier.Directory) all ∙ written_found identifier.Directory (directory_body c.args.entries.now); entries = c.requires }
