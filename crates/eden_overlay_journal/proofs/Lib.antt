mod Alike
mod Between
mod FieldsRead
mod PartRead
mod Over
mod Poured
mod Kept
mod Halves
