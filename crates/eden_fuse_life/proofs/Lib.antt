mod Staying
mod Living
