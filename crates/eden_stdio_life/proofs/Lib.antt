pub mod CallerLemmas
pub mod Living
mod Staying
pub mod Seeing
