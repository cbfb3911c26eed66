-- Members of the kernel's structs. Each lies behind the one before it, with its least byte first.
use Rattle.std.specs.Prelude.{ℕ, ◌+◌, ◌<◌, ◌^◌, ◌==◌, nat_le, List, length, take, drop, Option, Some, None, option_map, option_and_then, if◌then◌else◌}
use Rattle.std.specs.Int.{w16, w32, w64, from_le_bytes, to_le_bytes}
use Rattle.std.specs.List.{position, flat_map}
use Rattle.eden_fuse_format.specs.declared.members.Member.{Member}
use Rattle.eden_fuse_format.specs.declared.members.Member.TheVariants.{U16, U32, U64}

-- ---- members that are read, by their offsets

abbrev pub u32_at : ℕ → List ℕ → ℕ
u32_at offset bytes = from_le_bytes w32 (take 4 (drop offset bytes))

abbrev pub u64_at : ℕ → List ℕ → ℕ
u64_at offset bytes = from_le_bytes w64 (take 8 (drop offset bytes))

-- a struct of that size is read where there are so many bytes; there may be more, since structs grow at their ends
abbrev pub of_size : {X : Type 0} → ℕ → List ℕ → X → Option X
of_size size bytes x = if nat_le size (length bytes) then Some x else None

-- the bytes behind a struct
abbrev pub behind : ℕ → List ℕ → Option (List ℕ)
behind size bytes = of_size size bytes (drop size bytes)

-- ---- names that are read, each ended by a NUL

-- the bytes before the first NUL, and those behind it
abbrev pub cut : List ℕ → Option (List ℕ × List ℕ)
cut bytes = option_map (λ k. (take k bytes, drop (k + 1) bytes)) (position (λ b. b == 0) bytes)

-- one name, and nothing behind it
abbrev pub name_in : List ℕ → Option (List ℕ)
name_in bytes = option_and_then (λ x. if length x.1 == 0 then Some x.0 else None) (cut bytes)

-- two names, and nothing behind them
abbrev pub names_in : List ℕ → Option (List ℕ × List ℕ)
names_in bytes = option_and_then (λ x. option_map (λ y. (x.0, y)) (name_in x.1)) (cut bytes)

-- ---- members that are written

abbrev pub member_text : Member → List ℕ
member_text (U16 n) = to_le_bytes w16 n
member_text (U32 n) = to_le_bytes w32 n
member_text (U64 n) = to_le_bytes w64 n

-- one behind the other
unfoldable pub members_text : List Member → List ℕ
members_text ms = flat_map member_text ms

-- the number is one of the member's type
abbrev pub Fits : Member → Type 0
Fits (U16 n) = n < 2 ^ 16
Fits (U32 n) = n < 2 ^ 32
Fits (U64 n) = n < 2 ^ 64
