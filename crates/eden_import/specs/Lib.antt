pub mod Keys
pub mod Queue
pub mod Seen
pub mod Laws
