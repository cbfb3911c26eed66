pub mod Changes
pub mod New
pub mod Pouring
pub mod Records
