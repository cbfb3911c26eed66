pub mod Sending
pub mod Turns
pub mod Sessions
