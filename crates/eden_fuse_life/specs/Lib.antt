pub mod Serving
pub mod Lives
