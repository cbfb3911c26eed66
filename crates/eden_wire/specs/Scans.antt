-- What is known of a text before anything is read into memory.
use Rattle.std.specs.Prelude.{ℕ, ◌≡◌, ◌≤◌, Bool, ◌||◌, List, [], ◌∷◌, ◌++◌, length, Option, Some, None, nat_lt, if◌then◌else◌}
use Rattle.std.specs.List.{AllByRecursion}
use Rattle.std.specs.Str.{bytes_eq}
use Rattle.std.specs.Option.{option_or}
use Rattle.eden_model.specs.Bytes.{dot_byte, space_byte}
use Rattle.eden_model.specs.Names.{most_name, name_refusal}
use Rattle.eden_model.specs.Paths.{most_names, most_path}
use Rattle.eden_model.specs.declared.errno.Errno.{Errno}
use Rattle.eden_model.specs.declared.errno.Errno.TheVariants.{EINVAL, ENAMETOOLONG}
use Rattle.eden_model.specs.declared.request.Request.{Request}
use Rattle.eden_wire.specs.Names.{name_text, IsComponent, AreBytes}
use Rattle.eden_wire.specs.Fields.{Field, field_text, IsField}
use Rattle.eden_wire.specs.Fields.Field.{of_path, of_after}
use Rattle.eden_wire.specs.Requests.{spelling}
use Rattle.eden_wire.specs.Words.{request_word_text, shape_of}
use Rattle.eden_wire.specs.Sorts.{path_text, hex_text, after_text, fields_text, IsAfter, sort_of, AreFields, field_refusal, first_refusal}
use Rattle.eden_wire.specs.declared.word.Word.{Word}
use Rattle.eden_wire.specs.declared.word.Sort.{Sort}

abbrev pub is_dots : List ℕ → Bool
is_dots text = bytes_eq text (dot_byte ∷ []) || bytes_eq text (dot_byte ∷ dot_byte ∷ [])

-- why a component is refused, of which it is known whether it is no name and how long it is
abbrev pub refusal_by : Bool → ℕ → Option Errno
refusal_by no_name len = if no_name then Some EINVAL else (if nat_lt most_name len then Some ENAMETOOLONG else None)

-- why a path is refused: the first refusal of its components, or too many names or bytes
abbrev pub too_long_by : Option Errno → ℕ → ℕ → Option Errno
too_long_by first names bytes = option_or first (if nat_lt most_names names || nat_lt most_path bytes then Some ENAMETOOLONG else None)

abbrev pub SpellsNoName : List ℕ → Type 0
SpellsNoName text = (name : List ℕ) → IsComponent name → text ≡ name_text name → ⊥

-- the text spells a component of this length, which is refused so
pub record ScansName (text : List ℕ) (len : ℕ) (refusal : Option Errno) : Type 0 where
  pub name : List ℕ
  pub good : IsComponent name
  pub spelled : text ≡ name_text name
  pub size : len ≡ length name
  pub fits : len ≤ length text
  pub refused : refusal ≡ name_refusal name

abbrev pub SpellsNoAfter : List ℕ → Type 0
SpellsNoAfter text = (after : Option (List ℕ)) → IsAfter after → text ≡ after_text after → ⊥

pub record ScansAfter (text : List ℕ) (refusal : Option Errno) : Type 0 where
  pub after : Option (List ℕ)
  pub good : IsAfter after
  pub spelled : text ≡ after_text after
  pub refused : refusal ≡ field_refusal (of_after after)

abbrev pub SpellsNoPath : List ℕ → Type 0
SpellsNoPath text = (path : List (List ℕ)) → AllByRecursion IsComponent path → text ≡ path_text path → ⊥

-- the text of a path
abbrev pub SpellsPath : List ℕ → Type 0
SpellsPath text = (path : List (List ℕ)) × AllByRecursion IsComponent path × (text ≡ path_text path) × (field_refusal (of_path path) ≡ None)

-- the text of a name that may be left out
abbrev pub SpellsAfter : List ℕ → Type 0
SpellsAfter text = (after : Option (List ℕ)) × IsAfter after × (text ≡ after_text after) × (field_refusal (of_after after) ≡ None)

-- the text spells a path, which is refused so
pub record ScansPath (text : List ℕ) (refusal : Option Errno) : Type 0 where
  pub path : List (List ℕ)
  pub good : AllByRecursion IsComponent path
  pub spelled : text ≡ path_text path
  pub refused : refusal ≡ field_refusal (of_path path)

-- the text of some bytes
abbrev pub SpellsData : List ℕ → Type 0
SpellsData text = (bytes : List ℕ) × AreBytes bytes × (text ≡ hex_text bytes)

abbrev pub SpellsNo : Sort → List ℕ → Type 0
SpellsNo sort text = (f : Field) → sort_of f ≡ sort → IsField f → text ≡ field_text f → ⊥

-- the text spells a field of this sort, which is refused so
pub record Scans (sort : Sort) (text : List ℕ) (refusal : Option Errno) : Type 0 where
  pub spelt : Field
  pub is_sort : sort_of spelt ≡ sort
  pub good : IsField spelt
  pub spelled : text ≡ field_text spelt
  pub refused : refusal ≡ field_refusal spelt

abbrev pub SpellNoFields : List Sort → List ℕ → Type 0
SpellNoFields sorts text = (fields : List Field) → AreFields sorts fields → text ≡ fields_text fields → ⊥

-- the text spells fields of these sorts, which are refused so
pub record ScansFields (sorts : List Sort) (text : List ℕ) (refusal : Option Errno) : Type 0 where
  pub fields : List Field
  pub good : AreFields sorts fields
  pub spelled : text ≡ fields_text fields
  pub refused : refusal ≡ first_refusal field_refusal fields

-- the text is that of these fields
pub record SpellsFields (sorts : List Sort) (text : List ℕ) (fields : List Field) : Type 0 where
  pub good : AreFields sorts fields
  pub whole : text ≡ fields_text fields

-- the request has this word, and the text is that of its fields
pub record SpellsRequest (word : Word) (text : List ℕ) (q : Request) : Type 0 where
  pub fields : List Field
  pub parts : spelling q ≡ Some (request_word_text word, fields)
  pub spelled : SpellsFields (shape_of word) text fields

-- a field of this sort comes next, and nothing is refused
abbrev pub NextIs : Sort → List ℕ → Type 0
NextIs sort text = (sorts : List Sort) × ScansFields (sort ∷ sorts) text None

-- a field of this sort is all that comes, and nothing is refused
abbrev pub LastIs : Sort → List ℕ → Type 0
LastIs sort text = ScansFields (sort ∷ []) text None

-- this field was read
pub record Takes (taken : Field) (old new : List ℕ) : Type 0 where
  pub good : IsField taken
  pub whole : old ≡ space_byte ∷ (field_text taken ++ new)
  pub on : (sorts : List Sort) → ScansFields (sort_of taken ∷ sorts) old None → ScansFields sorts new None
