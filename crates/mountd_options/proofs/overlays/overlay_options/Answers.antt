use Rattle.std.proofs.Common.{◌∙◌, ap, codes, is_some}
use Rattle.clap.specs.Matches.{found_of}
use Rattle.clap.proofs.CallerLemmas.{some_of_text}
use Rattle.clap.proofs.WalkLemmas.{first_value-rows}
use Rattle.mountd_options.proofs.overlays.overlay_options.Goals as goal

pub unwrap-root-requires : goal.unwrap-root-requires
unwrap-root-requires c =
    some_of_text _ c.get_str.result _ c.get_str.ensures
    (ap is_some (first_value-rows (found_of c.args.given.now) (codes "root")) ∙ c.requires.0)

pub unwrap-folder-requires : goal.unwrap-folder-requires
unwrap-folder-requires c =
    some_of_text _ c.get_str-2.result _ c.get_str-2.ensures
    (ap is_some (first_value-rows (found_of c.args.given.now) (codes "overlay")) ∙ c.requires.1.0)
