pub mod Tables
pub mod Indexing
pub mod Ways
pub mod Laws
