-- What stands at the front of a text, and what is left after it.
use Rattle.std.specs.Prelude.{ℕ, ◌+◌, ◌≡◌, ◌≤◌, List, [], ◌∷◌, ◌++◌, length, Some, None}
use Rattle.eden_model.specs.Bytes.{space_byte}
use Rattle.eden_model.specs.Names.{name_refusal}
use Rattle.eden_model.specs.declared.request.Request.{Request}
use Rattle.eden_wire.specs.Names.{name_text, IsComponent}
use Rattle.eden_wire.specs.Fields.{Field, field_text, IsField}
use Rattle.eden_wire.specs.Fields.Field.{of_path}
use Rattle.eden_wire.specs.Requests.{spelling}
use Rattle.eden_wire.specs.Words.{request_word_text}
use Rattle.eden_wire.specs.Sorts.{field_refusal}
use Rattle.eden_wire.specs.declared.word.Word.{Word}

-- a name that isn't refused comes first, and then the rest
pub record NameFirst (name text rest : List ℕ) : Type 0 where
  pub good : IsComponent name
  pub whole : text ≡ name_text name ++ rest
  pub named : name_refusal name ≡ None
  pub fits : length name + length rest ≤ length text

-- a space and a field that isn't refused come first, and then the rest
pub record FieldFirst (f : Field) (text rest : List ℕ) : Type 0 where
  pub good : IsField f
  pub whole : text ≡ space_byte ∷ (field_text f ++ rest)
  pub unrefused : field_refusal f ≡ None

-- these fields, none of which is refused, are the whole text
abbrev pub FieldsFirst : List Field → List ℕ → Type 0
FieldsFirst [] text = text ≡ []
FieldsFirst (f ∷ fields) text = (rest : List ℕ) × FieldFirst f text rest × FieldsFirst fields rest

-- the request has this word and this path, and the text is that of its other fields
pub record Completes (word : Word) (path : List (List ℕ)) (text : List ℕ) (q : Request) : Type 0 where
  pub fields : List Field
  pub parts : spelling q ≡ Some (request_word_text word, of_path path ∷ fields)
  pub spelled : FieldsFirst fields text
