pub mod Dematerialising
pub mod Settling
pub mod Unread
