-- Which bytes store the entries of a directory.
use Rattle.std.specs.Prelude.{◌≡◌, ◌≤◌, ◌<◌, ◌^◌, ◌++◌, ℕ, Bool, true, false, List, [], ◌∷◌, length, Some, None}
use Rattle.std.specs.List.{flat_map, AllByRecursion}
use Rattle.std.specs.Int.{w32, w64, to_be_bytes}
use Rattle.eden_model.specs.declared.kind.Kind.{Kind}
use Rattle.eden_model.specs.declared.kind.Kind.TheVariants as kind
use Rattle.eden_model.specs.declared.kind.Origin.{Origin}
use Rattle.eden_model.specs.declared.kind.Origin.TheVariants as origin
use Rattle.eden_model.specs.Limits.{number_least, number_end}
use Rattle.eden_model.specs.Names.{name_refusal}
use Rattle.eden_model.specs.Named.{AreRising}
use Rattle.eden_overlay_format.specs.declared.header.Identifier.TheVariants as identifier
use Rattle.eden_overlay_format.specs.declared.stored_entry.StoredEntry.{StoredEntry}
use Rattle.eden_overlay_format.specs.Stored.{body_in}

abbrev pub kind_code : Kind → ℕ
kind_code kind.File = 0
kind_code kind.Exec = 1
kind_code kind.Link = 2
kind_code kind.Dir = 3

abbrev pub origin_code : Origin → ℕ
origin_code (origin.Object id) = 0
origin_code origin.Own = 1
origin_code origin.Empty = 2

-- an object's id stands behind the number
abbrev pub origin_bytes : Origin → List ℕ
origin_bytes (origin.Object id) = id.bytes
origin_bytes origin.Own = []
origin_bytes origin.Empty = []

-- a row: the kind, the origin, the number, an object's id, and the name behind its length
abbrev pub row : StoredEntry → List ℕ
row e = (kind_code e.kind ∷ origin_code e.origin ∷ []) ++ to_be_bytes w64 e.number ++ origin_bytes e.origin ++ (length e.name ∷ e.name)

-- the count of the entries, and their rows
abbrev pub directory_body : List StoredEntry → List ℕ
directory_body es = to_be_bytes w32 (length es) ++ flat_map row es

-- the contents are in the overlay's file of the number
abbrev pub is_own : Origin → Bool
is_own (origin.Object id) = false
is_own origin.Own = true
is_own origin.Empty = false

-- an id has 20 bytes, and `Empty` stands with a directory alone
abbrev pub HasOrigin : Kind → Origin → Type 0
HasOrigin k (origin.Object id) = length id.bytes ≡ 20
HasOrigin k origin.Own = Unit {0}
HasOrigin k origin.Empty = k ≡ kind.Dir

-- an entry that has a row
pub record IsStorable (e : StoredEntry) : Type 0 where
  pub name : name_refusal e.name ≡ None
  pub origin : HasOrigin e.kind e.origin
  pub least : number_least ≤ e.number
  pub most : e.number < number_end

-- what a directory can hold
pub record AreStorable (es : List StoredEntry) : Type 0 where
  pub count : length es < 2 ^ 32
  pub rising : AreRising (λ (e : StoredEntry). e.name) es
  pub each : AllByRecursion IsStorable es

pub record IsDirectory (bytes : List ℕ) (es : List StoredEntry) : Type 0 where
  pub stored : body_in identifier.Directory bytes ≡ Some (directory_body es)
  pub entries : AreStorable es
