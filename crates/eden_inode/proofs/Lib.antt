pub mod CallerLemmas
pub mod Rows
pub mod Names
pub mod Noting
pub mod Places
pub mod Refusals
pub mod Unloads
pub mod Sorting
pub mod Filled
pub mod Loads
pub mod Saves
pub mod Starts
mod Entries
pub mod OneEntry
pub mod Compared
