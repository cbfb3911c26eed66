pub mod Covering
pub mod Repairing
pub mod Surveying
