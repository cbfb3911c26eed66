-- What a loaded directory is as a stored one.
use Rattle.std.specs.Prelude.{◌≡◌, List, map, Some}
use Rattle.eden_model.specs.declared.kind.Origin.{Origin}
use Rattle.eden_model.specs.declared.kind.Origin.TheVariants as origin
use Rattle.eden_model.specs.Trees.{Name}
use Rattle.eden_overlay_format.specs.declared.stored_entry.StoredEntry.{StoredEntry}
use Rattle.eden_tree.specs.Directory.{Child, unloaded, loaded, Row, Directory, child_of}
use Rattle.eden_tree.specs.Rows.{find_row}

-- an entry in memory, as it is stored
abbrev pub stored_entry : Name × Row → StoredEntry
stored_entry e = record { name = e.0; kind = e.1.kind; origin = e.1.origin; number = e.1.number }

-- the entries in memory, as they are stored
abbrev pub listing_of : Directory → List StoredEntry
listing_of d = map stored_entry d.rows

-- its own, where it is loaded
abbrev pub own_if_loaded : Child → Origin → Origin
own_if_loaded unloaded o = o
own_if_loaded (loaded s u r) o = origin.Own

-- an entry in memory, as it would be stored were all that is loaded materialised
abbrev pub full_entry : Name × Row → StoredEntry
full_entry e = record { name = e.0; kind = e.1.kind; origin = own_if_loaded e.1.child e.1.origin; number = e.1.number }

abbrev pub full_listing : Directory → List StoredEntry
full_listing d = map full_entry d.rows

-- z is the entry x, or stands below it in loaded directories
pub data Place (x : Row) : Row → Type 0 where
  top : Place x x
  inside : (y : Row) (d : Directory) (n : Name) (z : Row) → Place x y → child_of y ≡ Some d → find_row n d.rows ≡ Some z → Place x z
