-- What callers' proofs cite beside the laws.
pub use Rattle.eden_ops.proofs.Going.{lets_go}
pub use Rattle.eden_ops.proofs.GoingOn.{bare_leads, may_begin, may_still, may_now, places_alike}
pub use Rattle.eden_ops.proofs.Roots.{root_left}
