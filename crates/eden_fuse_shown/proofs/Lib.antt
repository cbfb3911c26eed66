mod Leading
mod Keeping
mod Amounts
mod Contents
mod Bridging
mod Gathering
mod Seen
mod Stores
mod SeenLaws
mod BridgeLaws
mod Syncing
pub mod LaidOver
mod PartsSeen
