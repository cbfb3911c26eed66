-- How names are spelled: percent-encoding (RFC 3986, section 2.1) with one spelling for each byte.
use Rattle.std.specs.Prelude.{ℕ, ◌+◌, ◌/◌, ◌%◌, ◌<◌, ◌≡◌, Bool, ◌||◌, ◌==◌, nat_lt, List, [], ◌∷◌, length, if◌then◌else◌, None}
use Rattle.std.specs.List.{flat_map, AllByRecursion}
use Rattle.eden_model.specs.Bytes.{digit_zero, dot_byte, is_digit_byte, is_lower_letter, is_upper_letter, percent_sign, underscore}
use Rattle.eden_model.specs.Names.{name_refusal}

-- ASCII letters and digits, `.` and `_`
abbrev pub is_plain : ℕ → Bool
is_plain b = is_digit_byte b || is_upper_letter b || is_lower_letter b || b == dot_byte || b == underscore

-- the digit of a number below 16, in upper case: from 10 on a letter, of which `A` is 65
abbrev pub upper_digit : ℕ → ℕ
upper_digit d = if nat_lt d 10 then digit_zero + d else 55 + d

-- a plain byte stands for itself, any other is `%` and two digits
abbrev pub byte_text : ℕ → List ℕ
byte_text b = if is_plain b then b ∷ [] else percent_sign ∷ upper_digit (b / 16) ∷ upper_digit (b % 16) ∷ []

abbrev pub name_text : List ℕ → List ℕ
name_text name = flat_map byte_text name

abbrev pub AreBytes : List ℕ → Type 0
AreBytes bytes = AllByRecursion (λ b. b < 256) bytes

-- bytes, one at least
abbrev pub IsComponent : List ℕ → Type 0
IsComponent name = (0 < length name) × AreBytes name

-- the text of a name
abbrev pub SpellsName : List ℕ → Type 0
SpellsName text = (name : List ℕ) × IsComponent name × (text ≡ name_text name) × (name_refusal name ≡ None)
