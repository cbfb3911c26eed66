pub mod Telling
pub mod Entries
