pub mod Members
pub mod Opcodes
pub mod Structs
pub mod Asked
pub mod Messages
pub mod Answers
pub mod Spelling
pub mod Laws
