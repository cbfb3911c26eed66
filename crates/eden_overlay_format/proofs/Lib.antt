pub mod CallerLemmas
pub mod Headers
pub mod Agreement
pub mod Rows
pub mod Rising
pub mod Loop
pub mod Listed
pub mod Passing
pub mod Bodies
pub mod Found
pub mod NumbersFound
mod Lengths
mod Numbered
