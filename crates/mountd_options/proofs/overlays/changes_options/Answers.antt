use Rattle.mountd_options.proofs.overlays.changes_options.Goals as goal

pub overlay_options-requires : goal.overlay_options-requires
overlay_options-requires c = (c.requires.0, (c.requires.1.0, tt))
