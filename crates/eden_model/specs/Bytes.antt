-- The bytes of text that definitions name (ASCII).
use Rattle.std.specs.Prelude.{ℕ, Bool, ◌&&◌, ◌||◌, nat_le}

abbrev pub nul_byte : ℕ
nul_byte = 0

abbrev pub line_feed : ℕ
line_feed = 10

abbrev pub space_byte : ℕ
space_byte = 32

-- `%`
abbrev pub percent_sign : ℕ
percent_sign = 37

-- `.`
abbrev pub dot_byte : ℕ
dot_byte = 46

-- `/`
abbrev pub slash_byte : ℕ
slash_byte = 47

-- `0`
abbrev pub digit_zero : ℕ
digit_zero = 48

-- `_`
abbrev pub underscore : ℕ
underscore = 95

-- `0` to `9`
abbrev pub is_digit_byte : ℕ → Bool
is_digit_byte b = nat_le digit_zero b && nat_le b 57

-- `A` to `Z`
abbrev pub is_upper_letter : ℕ → Bool
is_upper_letter b = nat_le 65 b && nat_le b 90

-- `a` to `z`
abbrev pub is_lower_letter : ℕ → Bool
is_lower_letter b = nat_le 97 b && nat_le b 122

-- `0` to `9` or `a` to `f`
abbrev pub is_lower_hex_digit : ℕ → Bool
is_lower_hex_digit b = is_digit_byte b || (nat_le 97 b && nat_le b 102)
