pub mod CallerLemmas
pub mod Held
