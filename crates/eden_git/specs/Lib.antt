pub mod Framing
pub mod InFolder
pub mod Opening
