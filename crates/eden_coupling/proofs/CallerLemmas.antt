-- What callers' proofs cite beside `tie_laws`, `kept_laws` and `shown_laws`.
pub use Rattle.eden_coupling.proofs.Rows.{contains_mapped, mapped_from, full_rising, stored_rising, gone_after, own_loaded, as_is, entry_as_is, own_full, by_child, by_origin, map_some, and_then_some}
pub use Rattle.eden_coupling.proofs.Edits.{find_set, find_other, map_set}
-- places in loaded directories
pub use Rattle.eden_coupling.proofs.Places.{rising_of, one_loaded, one_row, away_row}
pub use Rattle.eden_coupling.proofs.Follows.{below_top, place_cases, held_moved}
pub use Rattle.eden_coupling.proofs.Chain.{place_at, at_changed, origin_kept, root_loaded}
pub use Rattle.eden_coupling.proofs.Loops.{loaded_above, place_on}
pub use Rattle.eden_coupling.proofs.Forward.{number_kept, kind_stays}
pub use Rattle.eden_coupling.proofs.Going.{bare_listing}
-- a chain of directories, one step of it
pub use Rattle.eden_coupling.proofs.Chains.{chain_loaded, chain_last, chain_marked, chain_absent, chain_rest, marked_is}
pub use Rattle.eden_coupling.proofs.Materialised.{along_found, chain_sound, chain_tied}
-- a listing without one entry, and an entry that is taken back
pub use Rattle.eden_coupling.proofs.Leaving.{rows_without, without_drops, stored_without, take_other, take_same, back_there, back_to}
pub use Rattle.eden_coupling.proofs.Changing.{full_are}
pub use Rattle.eden_coupling.proofs.Moved.{changes_kept, moves_kept}
-- an entry that moves, and soundness of what it leaves
pub use Rattle.eden_coupling.proofs.Sound.{ties_sound}
pub use Rattle.eden_coupling.proofs.Between.{moves_there, replaces_there}
pub use Rattle.eden_coupling.proofs.Moving.{moved_table, moved_kept, moved_shown, replaced_tied, replaced_kept, replaced_shown, replaced_other}
pub use Rattle.eden_coupling.proofs.Marked.{marked_table, marked_kept, marked_shown}
pub use Rattle.eden_coupling.proofs.Taken.{IsLeaf, back_kept, back_marked, went_kept, went_cleared}
pub use Rattle.eden_coupling.proofs.Staying.{moved_stays, marked_stays, moved_marks, marked_alone, left_elsewhere, moved_elsewhere}
-- what loads, and directories that go, keep of a table's invariant, beside `kept_laws`
pub use Rattle.eden_coupling.proofs.Tables.{put_table, own_loads_table, unloads_table}
pub use Rattle.eden_coupling.proofs.KeptLemmas.{next_rises, own_loads_kept, unloads_kept, tables_unload}
pub use Rattle.eden_coupling.proofs.Gone.{goes_kept}
pub use Rattle.eden_coupling.proofs.Loaded.{own_loaded_kept}
-- what a directory would be loaded from, and what is shown once it is, or goes
pub use Rattle.eden_coupling.proofs.Objects.{none_inside, object_from, empty_from}
pub use Rattle.eden_coupling.proofs.Listed.{own_from, other_from}
pub use Rattle.eden_coupling.proofs.Alike.{loads_alike}
pub use Rattle.eden_coupling.proofs.LoadsShown.{own_loads_alike, resumed_alike}
pub use Rattle.eden_coupling.proofs.UnloadsShown.{unloads_alike}
-- files that are stored, and not seen
pub use Rattle.eden_coupling.proofs.ShownFull.{Backs, backs_tied}
pub use Rattle.eden_coupling.proofs.Backed.{backs_loaded, backs_stray, backed_alike}
-- .. and what a listing that changes keeps of a table's invariant, and what is shown then
pub use Rattle.eden_coupling.proofs.Changed.{listing_table, listing_kept, listing_grafts}
-- a chain that becomes its own: its steps, what it keeps, and what is shown then
pub use Rattle.eden_coupling.proofs.Chained.{marked_are, Step, step, at_step, chain_from, chain_can, so_far, none_yet, above_back, unfinished_back}
pub use Rattle.eden_coupling.proofs.StaysLoaded.{loaded_there, Loaded, loaded_found}
-- which directories are unsaved
pub use Rattle.eden_coupling.proofs.Unsaved.{mark_of, unsaved_standing, standing_unsaved, unsaved_with, none_marked_with}
pub use Rattle.eden_coupling.proofs.ChainLaws.{same_listing, owned_table, owned_stays, owned_marked, owned_kept, owned_alike, refused_kept, refused_alike, owned_chain, chain_joined}
-- what may stand under a name of a loaded directory: its chain's stores, what it keeps, and what is shown then
pub use Rattle.eden_coupling.proofs.Storable.{drop_storable, entry_storable}
pub use Rattle.eden_coupling.proofs.Stands.{stands_sound, put_sound, put_can, stands_table, stands_marks, stands_stays, stands_kept, stands_grafts, removed_sound, removed_kept, removed_alike}
-- files that nothing has as its own
pub use Rattle.eden_coupling.proofs.LooseFiles.{loose_sound, loose_kept, loose_alike}
-- the own file of an entry
pub use Rattle.eden_coupling.proofs.Filing.{content_shows, file_shows, empty_shows, loose_elsewhere, entry_elsewhere}
pub use Rattle.eden_coupling.proofs.Contents.{content_sound, content_kept, content_grafts}
pub use Rattle.eden_coupling.proofs.OwnContents.{own_held}
-- a directory that is stored again
pub use Rattle.eden_coupling.proofs.Saved.{saves_table, saves_kept, saves_alike, saves_marks, saves_unmarked}
-- the numbers that a table shows: own directories that are loaded
pub use Rattle.eden_coupling.proofs.NumbersLoaded.{own_load_same, empty_load_same}
-- .. what keeps a table's numbers: loads, files, a chain, changes, and directories that are put away and go
pub use Rattle.eden_coupling.proofs.NumbersKept.{fresh_keeps, next_keeps, stamps_keep, object_load_keeps, saved_load_keeps, saved_load_from, own_load_keeps}
pub use Rattle.eden_coupling.proofs.NumbersFiles.{loaded_files_keep, not_shown_unseen, loaded_unseen, other_not_shown, unseen_file_keeps, same_then, chain_keeps, refused_keeps}
pub use Rattle.eden_coupling.proofs.NumbersFiles.{file_unseen as entry_unseen}
pub use Rattle.eden_coupling.proofs.NumbersEdited.{mark_keeps, drop_keeps, add_keeps, replace_keeps, move_keeps}
pub use Rattle.eden_coupling.proofs.NumbersRestored.{saved_load_over}
pub use Rattle.eden_coupling.proofs.NumbersAway.{empty_rows, stored_is, put_away_keeps, goes_away_keeps, unloads_away_table, unloads_away_keep, tables_go_away}
pub use Rattle.eden_coupling.proofs.NumbersSteps.{leave_keeps, left_not_shown, replaced_not_shown, come_keeps, owned_keeps, hold_keeps}
-- .. and stores and changes together
pub use Rattle.eden_coupling.proofs.NumbersDone.{content_numbers, new_content_numbers, new_entries_numbers, state_numbers, stateless_numbers, saves_numbers, owned_numbers}
pub use Rattle.eden_coupling.proofs.NumbersDone.{then_keeps, chain_numbers, removed_numbers, moved_numbers, replaced_numbers, marked_numbers}
-- which numbers stand where, and changes of what is shown
pub use Rattle.eden_coupling.proofs.NumbersFound.{number_at}
pub use Rattle.eden_coupling.proofs.NumbersRead.{in_memory}
pub use Rattle.eden_coupling.proofs.NumbersChanged.{put_form}
pub use Rattle.eden_coupling.proofs.NumbersShown.{same_shown, put_shown, move_shown}
-- .. and which they show then
pub use Rattle.eden_coupling.proofs.NumbersDone.{chain_grafts, new_puts, kept_same, removed_grafts, moved_moves, replaced_moves, marked_same}
-- .. and what the files of an opening show
pub use Rattle.eden_coupling.proofs.NumbersOpened.{found_shown, found_blank, found_keeps, state_goes, state_comes, orphans_go}
