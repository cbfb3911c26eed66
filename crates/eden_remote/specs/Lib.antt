pub mod Protocol
pub mod Faults
pub mod Refusals
pub mod Serving
pub mod Receiving
pub mod Remote
pub mod Laws
