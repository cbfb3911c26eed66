pub mod Opening
pub mod Checkouts
pub mod Closing
pub mod Attempted
pub mod Laws
pub mod Tidying
