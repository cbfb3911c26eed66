use Rattle.std.proofs.Common.{◌∙◌, ap, codes, is_some}
use Rattle.clap.specs.Matches.{found_of}
use Rattle.clap.proofs.CallerLemmas.{some_of_text}
use Rattle.clap.proofs.WalkLemmas.{first_value-rows}
use Rattle.mountd_options.proofs.overlays.dematerialise_options.Goals as goal

pub unwrap-tree-requires : goal.unwrap-tree-requires
unwrap-tree-requires c =
    some_of_text _ c.get_str.result _ c.get_str.ensures
    (ap is_some (first_value-rows (found_of c.args.given.now) (codes "tree")) ∙ c.requires.1.1.0)

pub overlay_options-requires : goal.overlay_options-requires
overlay_options-requires c = (c.requires.0, (c.requires.1.0, tt))
