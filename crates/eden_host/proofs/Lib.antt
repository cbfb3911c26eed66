pub mod Learning
pub mod Attending
pub mod Gathering
pub mod Beginning
pub mod CallerLemmas
