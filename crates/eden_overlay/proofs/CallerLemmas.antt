-- What callers' proofs cite beside `overlay_laws`.
use denote.RattleType.{RattleType}
use denote.Param.Send.{IsSend}
use Rattle.eden_model.specs.declared.world.World.{Ghosts}
use Rattle.eden_overlay.specs.declared.files.Files.{Ghosts as Files}
use Rattle.eden_overlay.specs.contracts.memory.MemoryFiles
use Rattle.eden_overlay.specs.contracts.overlay.Overlay
use Rattle.eden_overlay.proofs.memory.MemoryFiles.TheSendSync as memory
use Rattle.eden_overlay.proofs.overlay.Overlay.TheSendSync as overlay
pub use Rattle.eden_overlay.proofs.Puts.{root_same, nothing_at_root, entries_at_root}
pub use Rattle.eden_overlay.proofs.Puts.{put_here, put_apart, same_or_apart, moved, names_moved, kind_moved, one_held, one_kind, held_storable, nothing_there}
pub use Rattle.eden_overlay.proofs.Directories.{apart, named, kind_kept, was_named}
pub use Rattle.eden_overlay.proofs.Cycles.{joined, no_cycle}
-- where one of two lists has an item, and none has
pub use Rattle.eden_overlay.proofs.Places.{contains_first, contains_rest, contains_cases, contains_none}
-- the clauses of `overlay_laws`, for lemmas
pub use Rattle.eden_overlay.proofs.Puts.{contents_held, entries_held}
pub use Rattle.eden_overlay.proofs.Strays.{numbers_from_two, rootless_sound, strays_stay, live_stay, state_stays}
pub use Rattle.eden_overlay.proofs.Contents.{contents_stay}
pub use Rattle.eden_overlay.proofs.Directories.{dropped_stay, dropped_unnamed}
pub use Rattle.eden_overlay.proofs.Entering.{added_stay, entered_stay}
pub use Rattle.eden_overlay.proofs.Moving.{renamed_stay, moved_stay}
pub use Rattle.eden_overlay.proofs.Accusing.{accused_unsound, not_held, numbers_there}
-- what is saved of numbers
pub use Rattle.eden_overlay.proofs.Saves.{numbers_held, other_tree_has_none, entries_have_none, root_has_numbers}
pub use Rattle.eden_overlay.proofs.Roots.{root_stands}
-- directories that count
pub use Rattle.eden_overlay.proofs.Counting.{listed_from_two, live_counted, state_has_none}
-- the length of a content that a file's head tells
pub use Rattle.eden_overlay.proofs.Lengths.{length_held, no_length}
-- files without orphans
pub use Rattle.eden_overlay.proofs.Tidied.{root_stays, counted_stays, named_stays, live_before, named_before, still_sound}
-- a count that rose later rose, and a fault that is told later is one of the whole pass
pub use Rattle.eden_overlay.proofs.Accusing.{risen, earlier}
-- a set of the numbers that were met, and one more
pub use Rattle.eden_overlay.proofs.Walks.{OneMore, one_more_key, few_keys, was_absent}

module _ (W : RattleType) (w : Ghosts W.Denot) where
  -- an overlay may go to another thread where its files may
  pub Overlay-send : (F : RattleType) (f : Files F.Denot W.Denot) → IsSend F → IsSend (Overlay.the_row W F w f)
  Overlay-send F f = overlay.the_send W F w f

  -- files in memory may
  pub MemoryFiles-send : IsSend (MemoryFiles.the_row W w)
  MemoryFiles-send = memory.the_send W w
