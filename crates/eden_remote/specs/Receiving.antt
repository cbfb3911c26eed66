-- What a client hears.
use Rattle.std.specs.Prelude.{◌≡◌, ◌≢◌, ◌≤◌, ◌<◌, ◌⊎◌, ℕ, List, [], ◌∷◌, ◌++◌, length, take, codes, decimal, Result, Ok, Err, MatchResult}
use Rattle.std.specs.Str.Parse.{digits_value}
use Rattle.std.specs.Io.KnownBytes.{Consumes, IsAtEnd}
use Rattle.std.specs.declared.alloc.Global.{Global}
use Rattle.std.specs.declared.vec.Vec.{Vec}
use Rattle.eden_model.specs.Bytes.{line_feed}
use Rattle.eden_object.specs.Frames.{longest_framed}
use Rattle.eden_remote.specs.Protocol.{Known, IsOneLine, IsNumberText, IsFirstLine, object_line, object_text, missing_line, fault_line}
use Rattle.eden_remote.specs.declared.refusal.Refusal.{Refusal}
use Rattle.eden_remote.specs.declared.refusal.Refusal.TheVariants as refusal

-- a number over that, of any size
pub record IsTooLong (digits : List ℕ) : Type 0 where
  pub number : IsNumberText digits
  pub over : longest_framed < digits_value 10 digits

-- a first line of at most 32 bytes, its line feed among them
abbrev pub longest_first_line : ℕ
longest_first_line = 32

-- whatever comes after these bytes, no answer begins with them
abbrev pub IsNoAnswer : List ℕ → Type 0
IsNoAnswer read = (line more tail : List ℕ) → IsFirstLine line → length line < longest_first_line → read ++ more ≢ line ++ line_feed ∷ tail

-- a beginning of a first line, or of an object's answer: more is still to come
abbrev pub IsCut : List ℕ → Type 0
IsCut read =
    (IsOneLine read × (length read < longest_first_line))
    ⊎ ((n : ℕ) × (part : List ℕ) × (read ≡ object_line (decimal n) ++ part) × (length part < n) × (n ≤ longest_framed))

-- what was heard, and the reader before and after it
abbrev pub Refused : Known → Known → Refusal → Type 0
Refused old new refusal.Missing = Consumes old new missing_line
Refused old new refusal.Fault = Consumes old new fault_line
Refused old new refusal.TooLarge = (digits : List ℕ) × IsTooLong digits × Consumes old new (object_line digits)
Refused old new refusal.Memory =
    (n : ℕ) × (part : List ℕ) × (n ≤ longest_framed) × (length part ≤ n) × Consumes old new (object_line (decimal n) ++ part)
Refused old new refusal.NoAnswer = (read : List ℕ) × IsNoAnswer read × Consumes old new read
Refused old new refusal.Ended = (read : List ℕ) × IsCut read × Consumes old new read × IsAtEnd new
Refused old new refusal.Failed = (read : List ℕ) × IsCut read × Consumes old new read

-- an object's whole answer was heard, or why none
abbrev pub Hears : Known → Known → Result (Vec ℕ Global) Refusal → Type 0
Hears old new r = MatchResult r (λ v. Consumes old new (object_text v.items) × (length v.items ≤ longest_framed)) (Refused old new)

-- what a first line without its line feed says
abbrev pub Says : List ℕ → Result ℕ Refusal → Type 0
Says line (Ok n) = (line ≡ codes "object " ++ decimal n) × (n ≤ longest_framed)
Says line (Err refusal.Missing) = line ≡ codes "missing"
Says line (Err refusal.Fault) = line ≡ codes "fault"
Says line (Err refusal.TooLarge) = (digits : List ℕ) × IsTooLong digits × (line ≡ codes "object " ++ digits)
Says line (Err refusal.NoAnswer) = IsFirstLine line → ⊥
Says line (Err e) = ⊥

-- bytes were read to the front of the piece, or none
abbrev pub HearsSome : Known → Known → List ℕ → Result ℕ Refusal → Type 0
HearsSome old new piece (Ok n) = Consumes old new (take n piece)
HearsSome old new piece (Err refusal.Ended) = Consumes old new [] × IsAtEnd new
HearsSome old new piece (Err refusal.Failed) = Consumes old new []
HearsSome old new piece (Err e) = ⊥

-- one byte was read, or none
abbrev pub HearsByte : Known → Known → Result ℕ Refusal → Type 0
HearsByte old new (Ok b) = Consumes old new (b ∷ [])
HearsByte old new (Err refusal.Ended) = Consumes old new [] × IsAtEnd new
HearsByte old new (Err refusal.Failed) = Consumes old new []
HearsByte old new (Err e) = ⊥

-- the first line of an answer that gives n bytes was read, or why none
abbrev pub HearsLine : Known → Known → Result ℕ Refusal → Type 0
HearsLine old new r = MatchResult r (λ n. Consumes old new (object_line (decimal n)) × (n ≤ longest_framed)) (Refused old new)

-- a part of n bytes was read
abbrev pub HearsPart : Known → Known → ℕ → Refusal → Type 0
HearsPart old new n refusal.Memory = (part : List ℕ) × (length part ≤ n) × Consumes old new part
HearsPart old new n refusal.Ended = (part : List ℕ) × (length part < n) × Consumes old new part × IsAtEnd new
HearsPart old new n refusal.Failed = (part : List ℕ) × (length part < n) × Consumes old new part
HearsPart old new n e = ⊥

-- n bytes were read, or a part of them
abbrev pub HearsBytes : Known → Known → ℕ → Result (Vec ℕ Global) Refusal → Type 0
HearsBytes old new n r = MatchResult r (λ v. Consumes old new v.items × (length v.items ≡ n)) (HearsPart old new n)
