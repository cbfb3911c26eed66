pub mod LineLemmas
pub mod NumberLemmas
pub mod SendLemmas
pub mod ReceiveLemmas
pub mod ServeLemmas
pub mod LawLemmas
