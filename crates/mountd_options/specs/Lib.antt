pub mod Addresses
pub mod CommandLine
pub mod Grammar
pub mod Numbers
