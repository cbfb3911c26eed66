pub mod CallerLemmas
pub mod Listed
pub mod Rescanned
pub mod Opened
pub mod Fresh
pub mod Closed
pub mod Tidied
pub mod Tries
