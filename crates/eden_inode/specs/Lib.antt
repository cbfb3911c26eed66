pub mod Tables
pub mod Filling
pub mod Faults
pub mod Going
pub mod Listed
pub mod Trails
pub mod Saved
