-- The fields of a line by their sorts.
use Rattle.std.specs.Prelude.{ℕ, ◌≡◌, Bool, List, [], ◌∷◌, Option, Some, None, ⊤}
use Rattle.std.specs.List.{flat_map}
use Rattle.std.specs.Option.{option_or}
use Rattle.eden_model.specs.Bytes.{slash_byte, space_byte}
use Rattle.eden_model.specs.Names.{name_refusal}
use Rattle.eden_model.specs.Paths.{path_refusal}
use Rattle.eden_model.specs.declared.errno.Errno.{Errno}
use Rattle.eden_wire.specs.Names.{name_text}
use Rattle.eden_wire.specs.Fields.{Field, field_text, IsField}
use Rattle.eden_wire.specs.Fields.Field.{of_path, of_number, of_bit, of_data, of_after}
use Rattle.eden_wire.specs.declared.word.Sort.{Sort}
use Rattle.eden_wire.specs.declared.word.Sort.TheVariants.{Path, Number, Bit, Data, After}

abbrev pub sort_of : Field → Sort
sort_of (of_path path) = Path
sort_of (of_number n) = Number
sort_of (of_bit bit) = Bit
sort_of (of_data bytes) = Data
sort_of (of_after after) = After

-- fields of these sorts, as they may be spelled
abbrev pub AreFields : List Sort → List Field → Type 0
AreFields [] [] = ⊤
AreFields [] (f ∷ fields) = ⊥
AreFields (s ∷ sorts) [] = ⊥
AreFields (s ∷ sorts) (f ∷ fields) = (sort_of f ≡ s) × IsField f × AreFields sorts fields

-- the first refusal from the left
abbrev pub first_refusal : {A : Type 0} → (A → Option Errno) → List A → Option Errno
first_refusal why [] = None
first_refusal why (x ∷ xs) = option_or (why x) (first_refusal why xs)

-- the refusals of a path's names come before the path's own
abbrev pub field_refusal : Field → Option Errno
field_refusal (of_path path) = option_or (first_refusal name_refusal path) (path_refusal path)
field_refusal (of_after (Some name)) = name_refusal name
field_refusal field = None

-- a name of a path
abbrev pub component_text : List ℕ → List ℕ
component_text name = slash_byte ∷ name_text name

abbrev pub path_text : List (List ℕ) → List ℕ
path_text path = field_text (of_path path)

abbrev pub bit_text : Bool → List ℕ
bit_text bit = field_text (of_bit bit)

abbrev pub hex_text : List ℕ → List ℕ
hex_text bytes = field_text (of_data bytes)

abbrev pub after_text : Option (List ℕ) → List ℕ
after_text after = field_text (of_after after)

abbrev pub IsAfter : Option (List ℕ) → Type 0
IsAfter after = IsField (of_after after)

-- a space before each field
abbrev pub fields_text : List Field → List ℕ
fields_text fields = flat_map (λ f. space_byte ∷ field_text f) fields
