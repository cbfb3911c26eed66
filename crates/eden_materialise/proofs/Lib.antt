mod Steps
mod Outcomes
mod Putting
mod Swapped
mod Order
mod Moves
mod Listings
mod OneChange
mod Within
mod EntryMoves
mod Chains
mod Reforms
mod Removals
mod Filing
mod Additions
mod Fills
mod Fronts
mod InPlace
pub mod Numbered
pub mod Renumbered
