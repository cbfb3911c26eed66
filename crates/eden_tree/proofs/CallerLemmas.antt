-- What callers' proofs cite of a directory, its rows and its paths.
use denote.Param.Send.{IsSend, sendable}
use Rattle.std.proofs.Crossing
use Rattle.std.specs.contracts.alloc.Global as Heap
use Rattle.std.specs.contracts.impls.GlobalAllocator.TheImpl.{ghosts}
use Rattle.eden_model.proofs.CallerLemmas.{Name-send}
use Rattle.eden_tree.specs.contracts.dir.Entry
use Rattle.eden_tree.proofs.dir.Dir.TheLaws.TheKnot as knot
pub use Rattle.eden_tree.proofs.NameOrder.{order, same-≡, same-≢, same-refl, same-sym, same-both, same-less, lt-less, lt-≡, beyond}
pub use Rattle.eden_tree.proofs.Rising.{IsBelow, first_below, others}
-- an entry's directory, as its field has it
pub use Rattle.eden_tree.proofs.Children.{held, held_some, held_none, row_size-held, child_of-with_child, with_child-child_of}
pub use Rattle.eden_tree.proofs.Edits.{child_of-change_child, change_rows-held, change_rows-unloaded, with_child-same}
-- the rows of one directory
pub use Rattle.eden_tree.proofs.Lookups.{find_row-put_row, find_row-drop_row, find_row-change_row, find_row-set_row, change_row-twice, puts_undone, drops_undone, sets_undone}
pub use Rattle.eden_tree.proofs.RowLemmas.{AreRising-put_row, AreRising-drop_row, change_row-found, change_row-absent, set_row-same, drop_row-absent}
pub use Rattle.eden_tree.proofs.RowLemmas.{length-put_row, length-drop_row, keys_of-change_row, keys_of-set_at, length-keys, slice_get-get_or, slice_get-beyond}
pub use Rattle.eden_tree.proofs.Positions.{find_row-slice_get, slice_get-find_row, set_at-set_row, slice_get-set_at, slice_get-set_at-other}
pub use Rattle.eden_tree.proofs.Positions.{length-slice_get, length-change_row, length-set_at, Contains-find_row, find_row-Contains, splits, puts_between}
-- a path from an entry on
pub use Rattle.eden_tree.proofs.Edits.{reads_on, edits_on, edits_there, edits_not_beside, edits_one, edits_nothing, edits_same, edits_alike, edits_twice, puts_at, drops_at}
-- one step of a recursion along a path, or over the entries of a directory
pub use Rattle.eden_tree.proofs.Edits.{steps_down, steps_back, put_back, row_at-unloaded, row_at-absent, no_names}
pub use Rattle.eden_tree.proofs.Positions.{row_size-slice_get, row_size-find_row, directory_size-child_of}
-- stamps
pub use Rattle.eden_tree.proofs.Edits.{stamps_along, stamped_along-unloaded, stamped_along-end, stamped_along-absent, stamped_along-found}

-- an entry at the heap, with all that is loaded in it, may go to another thread
pub Entry-send : IsSend (Entry.the_row Heap.the_row ghosts)
Entry-send = search (knot.crosses, Crossing.crosses, sendable, Name-send) depth 60
