-- Numbers as entries and deltas write them (gitformat-pack(5), "Size encoding", "Offset encoding" and "Instruction to copy").
use Rattle.std.specs.Prelude.{ℕ, zero, suc, ◌+◌, ◌*◌, ◌/◌, ◌%◌, ◌==◌, List, []}
use Rattle.std.specs.Prelude.{◌∷◌, Bool, true, false, Option, Some, None, option_map, option_and_then, nat_lt, if◌then◌else◌}

-- Groups of seven bits, the lowest first; a byte from 128 on says that more come, of at most so many. What was read before is
-- the number, and worth is what the next group's ones stand for. Also the bytes behind the number.
unfoldable pub groups : ℕ → ℕ → ℕ → List ℕ → Option (ℕ × List ℕ)
groups zero number worth bytes = None
groups (suc most) number worth [] = None
groups (suc most) number worth (b ∷ bytes) =
    if nat_lt b 128 then Some (number + worth * b, bytes) else groups most (number + worth * (b % 128)) (worth * 128) bytes

-- a size, in at most eight groups
abbrev pub size : List ℕ → Option (ℕ × List ℕ)
size bytes = groups 8 0 1 bytes

-- Groups of seven bits, the highest first; a byte from 128 on says that more come, and adds one for them.
unfoldable pub back : ℕ → ℕ → List ℕ → Option (ℕ × List ℕ)
back zero number bytes = None
back (suc most) number [] = None
back (suc most) number (b ∷ bytes) = if nat_lt b 128 then Some (128 * number + b, bytes) else back most (128 * number + b % 128 + 1) bytes

-- how far back a base begins, in at most eight groups
abbrev pub back_by : List ℕ → Option (ℕ × List ℕ)
back_by bytes = back 8 0 bytes

-- the next byte, or 0 where an instruction says that it isn't there
abbrev pub byte_if : Bool → List ℕ → Option (ℕ × List ℕ)
byte_if false bytes = Some (0, bytes)
byte_if true [] = None
byte_if true (b ∷ bytes) = Some (b, bytes)

-- three bytes, the lowest first, of which those are there that the lowest bits of the flags say
unfoldable pub length_of : ℕ → List ℕ → Option (ℕ × List ℕ)
length_of flags bytes =
    option_and_then (λ a. option_and_then (λ b. option_map (λ c. (a.0 + 256 * b.0 + 65536 * c.0, c.1)) (byte_if (flags / 4 % 2 == 1) b.1))
    (byte_if (flags / 2 % 2 == 1) a.1)) (byte_if (flags % 2 == 1) bytes)

-- four bytes
unfoldable pub offset : ℕ → List ℕ → Option (ℕ × List ℕ)
offset flags bytes =
    option_and_then (λ low. option_map (λ high. (low.0 + 16777216 * high.0, high.1)) (byte_if (flags / 8 % 2 == 1) low.1)) (length_of flags bytes)
