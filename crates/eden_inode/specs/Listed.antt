-- A loaded directory as it is to be stored.
use Rattle.std.specs.Prelude.{if◌then◌else◌, ◌≡◌, ℕ, List, Option, Some, None}
use Rattle.std.specs.Str.{bytes_eq}
use Rattle.eden_model.specs.declared.kind.Origin.{Origin}
use Rattle.eden_model.specs.declared.kind.Origin.TheVariants as origin
use Rattle.eden_model.specs.Named.{named}
use Rattle.eden_model.specs.Trees.{Name}
use Rattle.eden_overlay_format.specs.Changing.{entries_with}
use Rattle.eden_overlay_format.specs.declared.stored_entry.StoredEntry.{StoredEntry}
use Rattle.eden_overlay.specs.Files.{Stored}
use Rattle.eden_overlay.specs.Held.{HoldsEntries}
use Rattle.eden_tree.specs.Directory.{Directory}
use Rattle.eden_coupling.specs.Listings.{listing_of}
use Rattle.eden_coupling.specs.Changing.{changed}
use Rattle.eden_coupling.specs.Materialising.{marked_listing}
use Rattle.eden_inode.specs.declared.listing.Listed.{Listed}
use Rattle.eden_inode.specs.declared.listing.Listed.TheVariants.{Whole, Without, Owned}

-- the entries of a directory that are stored
abbrev pub listed_as : Listed → Directory → List StoredEntry
listed_as Whole d = listing_of d
listed_as (Without name) d = listing_of (changed d name.now None)
listed_as (Owned name) d = marked_listing d name.now

-- the origin that an entry of that name is stored with, or none where it is left out
abbrev pub origin_as : Listed → Name → Origin → Option Origin
origin_as Whole n o = Some o
origin_as (Without name) n o = if bytes_eq name.now n then None else Some o
origin_as (Owned name) n o = Some (if bytes_eq name.now n then origin.Own else o)

-- file k holds other entries than these in the one of that name alone
abbrev pub DiffersAt : Name → Stored → ℕ → List StoredEntry → Type 0
DiffersAt n F k es = (old : List StoredEntry) × HoldsEntries F k old × (entries_with n (named (λ e. e.name) n es) old ≡ es)

-- .. or in the ones of these two names alone, and of the first they have none
abbrev pub RenamesAt : Name → Name → Stored → ℕ → List StoredEntry → Type 0
RenamesAt n m F k es =
    (old : List StoredEntry) × HoldsEntries F k old × (entries_with n None (entries_with m (named (λ e. e.name) m es) old) ≡ es)
