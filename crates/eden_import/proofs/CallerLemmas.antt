-- What callers' proofs cite of the queue's steps: the laws of `queue_laws`, for lemmas of their own.
pub use Rattle.eden_import.proofs.LawLemmas.{queued_are_wanted, wanted_stand, all_are_met, wanters_are_marked, one_forgets}
pub use Rattle.eden_import.proofs.PassLemmas.{one_awaits, one_quits, forgetting_keeps, quit_rest}
pub use Rattle.eden_import.proofs.FlightLemmas.{marks_stay, wants_stay, one_is_taken, one_lands, passes_keep_flight}
