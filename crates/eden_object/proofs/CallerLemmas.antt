-- What callers' proofs cite.
pub use Rattle.eden_object.proofs.FrameLemmas.{one_frame_law}
pub use Rattle.eden_object.proofs.RowLemmas.{one_list_law}
pub use Rattle.eden_object.proofs.EncodeLemmas.{same_differ}
