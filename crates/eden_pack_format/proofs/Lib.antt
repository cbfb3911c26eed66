pub mod NumberLemmas
pub mod DeltaLemmas
pub mod ChunkLemmas
