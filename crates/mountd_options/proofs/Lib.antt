pub mod FilledRows
pub mod LineLemmas
pub mod MetLines
pub mod TakenLines
