use Rattle.eden_overlay.proofs.Strays.{numbers_from_two, rootless_sound, strays_stay, live_stay, state_stays}
use Rattle.eden_overlay.proofs.Puts.{contents_held, entries_held}
use Rattle.eden_overlay.proofs.Saves.{numbers_held, other_tree_has_none, entries_have_none, root_has_numbers}
use Rattle.eden_overlay.proofs.Contents.{contents_stay}
use Rattle.eden_overlay.proofs.Directories.{dropped_stay, dropped_unnamed}
use Rattle.eden_overlay.proofs.Entering.{added_stay, entered_stay}
use Rattle.eden_overlay.proofs.Moving.{renamed_stay, moved_stay}
use Rattle.eden_overlay.proofs.Accusing.{accused_unsound}
use Rattle.eden_overlay.proofs.laws.overlay_laws.Goals as goal

pub returns-clause-contents_held : goal.returns-clause-contents_held
returns-clause-contents_held c = contents_held

pub returns-clause-entries_held : goal.returns-clause-entries_held
returns-clause-entries_held c = entries_held

pub returns-clause-numbers : goal.returns-clause-numbers
returns-clause-numbers c = numbers_from_two

pub returns-clause-rootless : goal.returns-clause-rootless
returns-clause-rootless c = rootless_sound

pub returns-clause-strays : goal.returns-clause-strays
returns-clause-strays c = strays_stay

pub returns-clause-live : goal.returns-clause-live
returns-clause-live c = live_stay

pub returns-clause-contents : goal.returns-clause-contents
returns-clause-contents c = contents_stay

pub returns-clause-dropped : goal.returns-clause-dropped
returns-clause-dropped c = dropped_stay

pub returns-clause-added : goal.returns-clause-added
returns-clause-added c = added_stay

pub returns-clause-entered : goal.returns-clause-entered
returns-clause-entered c = entered_stay

pub returns-clause-dropped_unnamed : goal.returns-clause-dropped_unnamed
returns-clause-dropped_unnamed c = dropped_unnamed

pub returns-clause-renamed : goal.returns-clause-renamed
returns-clause-renamed c = renamed_stay

pub returns-clause-moved : goal.returns-clause-moved
returns-clause-moved c = moved_stay

pub returns-clause-state : goal.returns-clause-state
returns-clause-state c = state_stays

pub returns-clause-accused : goal.returns-clause-accused
returns-clause-accused c = accused_unsound

pub returns-clause-numbers_held : goal.returns-clause-numbers_held
returns-clause-numbers_held c = numbers_held

pub returns-clause-other_tree : goal.returns-clause-other_tree
returns-clause-other_tree c = other_tree_has_none

pub returns-clause-entries_have_none : goal.returns-clause-entries_have_none
returns-clause-entries_have_none c = entries_have_none

pub returns-clause-root_has_numbers : goal.returns-clause-root_has_numbers
returns-clause-root_has_numbers c = root_has_numbers
