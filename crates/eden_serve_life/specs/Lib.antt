pub mod Lives
pub mod Inside
