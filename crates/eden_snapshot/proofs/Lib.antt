pub mod Found
pub mod Thinned
pub mod Wholes
pub mod Joined
pub mod Ordered
pub mod Trails
mod Differing
mod Gathered
mod Turned
mod Named
mod Covered
mod Exactly
