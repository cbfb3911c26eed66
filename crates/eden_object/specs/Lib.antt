pub mod Frames
pub mod Trees
pub mod Objects
pub mod Order
pub mod Rows
pub mod Laws
pub mod IdText
pub mod Encoding
