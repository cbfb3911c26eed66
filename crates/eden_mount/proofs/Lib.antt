pub mod CallerLemmas
mod SeatLemmas
mod TurnLemmas
mod Payloads
mod Keeping
mod Telling
mod Placing
mod AtOnce
mod Running
mod Blaming
mod Driving
