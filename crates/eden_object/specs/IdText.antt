-- An object's id as text.
use Rattle.std.specs.Prelude.{◌≡◌, ℕ, List, length}
use Rattle.std.specs.List.{AllPass}
use Rattle.eden_model.specs.Bytes.{is_lower_hex_digit}

-- the text of 20 bytes: 40 lower-case hexadecimal digits
abbrev pub IsIdText : List ℕ → Type 0
IsIdText text = (length text ≡ 40) × AllPass is_lower_hex_digit text
