pub mod Ended
pub mod Opened
