pub mod LookedOn
pub mod Running
pub mod Heeding
pub mod Gathering
pub mod Heard
