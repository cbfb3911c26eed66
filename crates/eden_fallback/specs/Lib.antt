pub mod Fallbacks
