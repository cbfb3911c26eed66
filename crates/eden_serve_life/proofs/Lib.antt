pub mod Living
mod Seeing
