pub mod Fronts
pub mod Rows
pub mod Walks
pub mod Changes
pub mod Numbers
pub mod Tables
