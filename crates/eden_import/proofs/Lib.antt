mod KeyLemmas
mod WantLemmas
mod StepLemmas
mod LawLemmas
mod PassLemmas
mod FlightLemmas
pub mod CallerLemmas
