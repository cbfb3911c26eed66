pub mod Lines
pub mod Wants
pub mod Passing
pub mod Turns
pub mod Hands
pub mod Sharing
