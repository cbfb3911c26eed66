pub mod Fetching
pub mod InMemory
pub mod InFolder
pub mod Asking
