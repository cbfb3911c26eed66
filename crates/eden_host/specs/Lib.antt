pub mod Guests
pub mod Sessions
pub mod Sharing
pub mod Threads
