-- The object server's protocol: what a client says, and what it is answered.
use Rattle.std.specs.Prelude.{◌≡◌, ◌≢◌, ◌<◌, ◌⊎◌, ℕ, List, [], ◌∷◌, ◌++◌, length, take, slice_index, codes, decimal, Option, Result, Ok, Err, MatchResult}
use Rattle.std.specs.List.{AllByRecursion}
use Rattle.std.specs.Str.Parse.{AllDigits}
use Rattle.std.specs.Io.KnownBytes.{Appends}
use Rattle.eden_model.specs.Bytes.{digit_zero, line_feed}
use Rattle.eden_model.specs.declared.fault.Cause.TheVariants as cause
use Rattle.eden_source.specs.Fetching.{Answer}

-- the bytes that a reader still has to give, or that a writer has taken, where they are known
abbrev pub Known : Type 0
Known = Option (List ℕ)

-- no line feed among the bytes
abbrev pub IsOneLine : List ℕ → Type 0
IsOneLine bytes = AllByRecursion (λ b. b ≢ line_feed) bytes

-- a client asks for the object whose id has these digits
abbrev pub get_line : List ℕ → List ℕ
get_line digits = codes "get " ++ digits ++ line_feed ∷ []

-- the first line of an answer that gives so many bytes
abbrev pub object_line : List ℕ → List ℕ
object_line digits = codes "object " ++ digits ++ line_feed ∷ []

abbrev pub missing_line : List ℕ
missing_line = codes "missing\n"

abbrev pub fault_line : List ℕ
fault_line = codes "fault\n"

-- the answer that gives the bytes
abbrev pub object_text : List ℕ → List ℕ
object_text framed = object_line (decimal (length framed)) ++ framed

-- what a server says for what its source answered
abbrev pub answer_text : Answer → List ℕ
answer_text (Ok framed) = object_text framed
answer_text (Err cause.Missing) = missing_line
answer_text (Err e) = fault_line

-- the digits of a number, without leading zeros
pub record IsNumberText (text : List ℕ) : Type 0 where
  pub some : 0 < length text
  pub digits : AllDigits 10 text
  pub first : slice_index text 0 ≡ digit_zero → length text ≡ 1

-- the first line of an answer, without its line feed
abbrev pub IsFirstLine : List ℕ → Type 0
IsFirstLine line = (line ≡ codes "missing") ⊎ (line ≡ codes "fault") ⊎ ((digits : List ℕ) × IsNumberText digits × (line ≡ codes "object " ++ digits))

-- the text was written, or at an error a beginning of it
abbrev pub SendsUpTo : {T E : Type 0} → Known → Known → List ℕ → Result T E → Type 0
SendsUpTo old new text r = MatchResult r (λ _. Appends old new text) (λ _. (n : ℕ) × Appends old new (take n text))
