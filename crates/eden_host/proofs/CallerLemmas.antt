-- What callers' proofs cite: the passes of a mount in which nothing has happened.
pub use Rattle.eden_host.proofs.Beginning.{are_newcomers, newcomers_each, newcomers_terms}
