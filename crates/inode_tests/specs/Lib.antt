pub mod Listings
pub mod Places
