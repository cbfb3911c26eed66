-- Two hexadecimal digits as one number.
use Rattle.std.specs.Prelude.{ℕ, ◌+◌, ◌*◌, ◌/◌, ◌%◌, slice_index}
use Rattle.hex.specs.Hex.{lower_digits}

-- the two digits of a byte, of which the first is the low half
abbrev pub digits_of : ℕ → ℕ
digits_of b = slice_index lower_digits (b / 16) + 256 * slice_index lower_digits (b % 16)
