pub mod CallerLemmas
pub mod Held
pub mod Puts
pub mod Roots
pub mod Saves
pub mod Strays
pub mod Counting
pub mod Bodies
pub mod Contents
pub mod Directories
pub mod Cycles
pub mod Entering
pub mod Moving
pub mod Places
pub mod Walks
pub mod Nexts
pub mod Accusing
pub mod Tidied
mod Kept
mod Lengths
mod Whole
mod Parts
mod Remembered
