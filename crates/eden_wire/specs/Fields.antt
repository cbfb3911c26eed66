-- The fields of a line: how they are spelled, and which are refused. Data is in lower-case hexadecimal (RFC 4648,
-- section 8).
use Rattle.std.specs.Prelude.{ℕ, ◌^◌, ◌<◌, Bool, List, [], ◌∷◌, ◌++◌, filter_map, if◌then◌else◌, Option, Some, None, codes, ⊤}
use Rattle.std.specs.List.{AllByRecursion, flat_map}
use Rattle.std.specs.Fmt.{decimal}
use Rattle.hex.specs.Hex.{encode_lower}
use Rattle.eden_model.specs.Bytes.{slash_byte}
use Rattle.eden_model.specs.Names.{name_refusal}
use Rattle.eden_model.specs.Paths.{path_refusal}
use Rattle.eden_model.specs.declared.errno.Errno.{Errno}
use Rattle.eden_wire.specs.Names.{name_text, IsComponent, AreBytes}

pub data Field : Type 0 where
  of_path : List (List ℕ) → Field
  of_number : ℕ → Field
  of_bit : Bool → Field
  of_data : List ℕ → Field
  of_after : Option (List ℕ) → Field

-- `/` stands before each name of a path or alone, and `-` for no data or no name
abbrev pub field_text : Field → List ℕ
field_text (of_path []) = codes "/"
field_text (of_path path) = flat_map (λ name. slash_byte ∷ name_text name) path
field_text (of_number n) = decimal n
field_text (of_bit bit) = if bit then codes "1" else codes "0"
field_text (of_data []) = codes "-"
field_text (of_data bytes) = encode_lower bytes
field_text (of_after None) = codes "-"
field_text (of_after (Some name)) = name_text name

-- a field as it may be spelled, whether or not its names are names
abbrev pub IsField : Field → Type 0
IsField (of_path path) = AllByRecursion IsComponent path
IsField (of_number n) = n < 2 ^ 64
IsField (of_data bytes) = AreBytes bytes
IsField (of_after (Some name)) = IsComponent name
IsField field = ⊤

-- why a field is refused: for each name, and then for the path
abbrev pub refusals : Field → List Errno
refusals (of_path path) = filter_map name_refusal path ++ filter_map path_refusal (path ∷ [])
refusals (of_after (Some name)) = filter_map name_refusal (name ∷ [])
refusals field = []
