pub mod Bounded
pub mod Cache
pub mod Laws
pub mod Lends
pub mod Seen
pub mod Stock
