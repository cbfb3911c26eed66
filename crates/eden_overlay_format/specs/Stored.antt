-- What every stored file is: a header of 64 bytes, and a body behind it. This alone says what a header is. What is written has
-- version 2, which tells a damaged body; version 1, which doesn't, is read still.
-- The first two identifiers and the header's length are those of EdenFS's overlay files; the rest is this project's own.
use Rattle.std.specs.Prelude.{◌≡◌, ℕ, ◌-◌, Bool, List, ◌++◌, length, take, drop, replicate, codes, nat_lt, if◌then◌else◌, Option, Some, None, unwrap_or}
use Rattle.std.specs.Option.{is_none, option_or}
use Rattle.std.specs.Int.{w32, w64, to_be_bytes}
use Rattle.std.specs.Str.{bytes_eq}
use Rattle.sha1.specs.Sha1.{sha1}
use Rattle.eden_overlay_format.specs.declared.header.Identifier.{Identifier}
use Rattle.eden_overlay_format.specs.declared.header.Identifier.TheVariants as identifier
use Rattle.eden_overlay_format.specs.declared.refusal.Refusal.{Refusal}
use Rattle.eden_overlay_format.specs.declared.refusal.Refusal.TheVariants.{Short, BadIdentifier, BadVersion, BadBody, BadLength, BadDigest}

-- bytes 0 to 3
abbrev pub identifier_bytes : Identifier → List ℕ
identifier_bytes identifier.File = codes "OVFL"
identifier_bytes identifier.Directory = codes "OVDR"
identifier_bytes identifier.Numbers = codes "OVDN"

-- the file begins so
abbrev pub is_a : Identifier → List ℕ → Bool
is_a i bytes = bytes_eq (take 4 bytes) (identifier_bytes i)

-- bytes 4 to 7
abbrev pub version_bytes : ℕ → List ℕ
version_bytes version = to_be_bytes w32 version

-- bytes 8 to 15 of version 2: the length of the body behind the header; bytes 16 to 35 are its SHA-1 (FIPS 180-4)
abbrev pub length_bytes : ℕ → List ℕ
length_bytes len = to_be_bytes w64 len

-- the header as it is written, in version 2, with zeros for bytes 36 to 63
unfoldable pub header : Identifier → List ℕ → List ℕ
header i body = identifier_bytes i ++ version_bytes 2 ++ length_bytes (length body) ++ sha1 body ++ replicate 28 0

-- the file as it is written
abbrev pub stored_as : Identifier → List ℕ → List ℕ
stored_as i body = header i body ++ body

-- the numbers that stand for refusals
abbrev pub refusal_number : Refusal → ℕ
refusal_number Short = 1
refusal_number BadIdentifier = 2
refusal_number BadVersion = 3
refusal_number BadBody = 4
refusal_number BadLength = 5
refusal_number BadDigest = 6

-- What is wrong with the header of a file of that length, as its first 64 bytes tell it, where the file was asked for under
-- that identifier: in version 2 the body has another length; in version 1 bytes 8 to 63 are not looked at.
abbrev pub version_refusal : List ℕ → ℕ → Option Refusal
version_refusal first len =
    if bytes_eq (take 4 (drop 4 first)) (version_bytes 2)
    then (if bytes_eq (take 8 (drop 8 first)) (length_bytes (len - 64)) then None else Some BadLength)
    else (if bytes_eq (take 4 (drop 4 first)) (version_bytes 1) then None else Some BadVersion)

unfoldable pub head_refusal : Identifier → List ℕ → ℕ → Option Refusal
head_refusal i first len =
    if nat_lt len 64 then Some Short
    else (if is_a i first then version_refusal first len else Some BadIdentifier)

-- in version 2 the body has another digest
unfoldable pub digest_refusal : List ℕ → Option Refusal
digest_refusal bytes =
    if bytes_eq (take 4 (drop 4 bytes)) (version_bytes 2)
    then (if bytes_eq (take 20 (drop 16 bytes)) (sha1 (drop 64 bytes)) then None else Some BadDigest)
    else None

-- what is wrong with the header of a whole file: bytes 36 to 63 are not looked at
unfoldable pub header_refusal : Identifier → List ℕ → Option Refusal
header_refusal i bytes = option_or (head_refusal i bytes (length bytes)) (digest_refusal bytes)

-- the body behind a header with nothing wrong
unfoldable pub body_in : Identifier → List ℕ → Option (List ℕ)
body_in i bytes = if is_none (header_refusal i bytes) then Some (drop 64 bytes) else None

-- Why bytes that hold no value are refused: for the header, or else for the body.
abbrev pub first_refusal : Identifier → List ℕ → Refusal
first_refusal i bytes = unwrap_or (header_refusal i bytes) BadBody

-- the bytes hold no value, and that is why
abbrev pub Refuses : {X : Type 0} → Identifier → (List ℕ → Option X) → List ℕ → Refusal → Type 0
Refuses i value bytes e = (value bytes ≡ None) × (e ≡ first_refusal i bytes)
