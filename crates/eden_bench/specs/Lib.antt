pub mod Oracles
