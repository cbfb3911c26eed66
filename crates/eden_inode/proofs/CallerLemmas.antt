-- What callers' proofs cite: names that are kept at their positions, and places that are kept with them.
pub use Rattle.eden_inode.proofs.Names.{keeps_same, keeps_then, keeps_unloaded, keeps_step, keeps_changed, keeps_edit, leads_kept, keeps_stamps, keeps_loaded}
pub use Rattle.eden_inode.proofs.Rows.{same_some}
pub use Rattle.eden_inode.proofs.Places.{places_same, places_rise, places_then, places_unload}
pub use Rattle.eden_inode.proofs.Noting.{leads_few}
