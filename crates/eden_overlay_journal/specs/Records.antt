-- The records of a journal's file.
use Rattle.std.specs.Prelude.{◌≡◌, ◌≤◌, ◌+◌, ℕ, List, ◌++◌, ◌-◌, codes, drop, length, take}
use Rattle.std.specs.Int.{w64, to_be_bytes}
use Rattle.sha1.specs.Sha1.{sha1}
use Rattle.eden_overlay_journal.specs.declared.change.Change.{Change}
use Rattle.eden_overlay_journal.specs.declared.change.Change.TheVariants as change
use Rattle.eden_overlay_journal.specs.declared.part.Part.{Part}
use Rattle.eden_overlay_journal.specs.declared.record.Note.{Note}
use Rattle.eden_overlay_journal.specs.declared.record.Note.TheVariants as note

-- which record it is
abbrev pub note_bytes : Note → List ℕ
note_bytes note.Stored = codes "OVJS"
note_bytes note.Directory = codes "OVJD"
note_bytes note.Part = codes "OVJP"
note_bytes note.Parts = codes "OVJM"
note_bytes note.Removed = codes "OVJR"
note_bytes note.Elsewhere = codes "OVJE"

-- bytes 20 to 47: which record, the file's number, when it was noted, and the length of what follows
unfoldable pub fields : Note → ℕ → ℕ → ℕ → List ℕ
fields note number when len = note_bytes note ++ to_be_bytes w64 number ++ to_be_bytes w64 when ++ to_be_bytes w64 len

-- Bytes 0 to 19 are the SHA-1 (FIPS 180-4) of all that follows. Behind the fields stand the file's bytes, or of a directory the
-- body of its file, or what has changed in one, in one place or in two.
abbrev pub record_of : Note → ℕ → ℕ → List ℕ → List ℕ
record_of note number when bytes = sha1 (fields note number when (length bytes) ++ bytes) ++ fields note number when (length bytes) ++ bytes

-- a record that has no bytes of a file, and no time
abbrev pub short_record_of : Note → ℕ → List ℕ
short_record_of note number = sha1 (fields note number 0 0) ++ fields note number 0 0

-- What has changed in a body: where the record begins that told it before, how many bytes stay behind its count and how many at
-- its end, and the count and what stands between them now.
unfoldable pub part_front : ℕ → ℕ → ℕ → List ℕ → List ℕ
part_front before front back count = to_be_bytes w64 before ++ to_be_bytes w64 front ++ to_be_bytes w64 back ++ count

-- the body that it makes of the one before; its count has 4 bytes
abbrev pub with_part : List ℕ → ℕ → ℕ → List ℕ → List ℕ → List ℕ
with_part body front back count middle = count ++ take front (drop 4 body) ++ middle ++ drop (length body - back) body

-- the same of a part, and its bytes
abbrev pub made_by : Part → List ℕ → List ℕ
made_by part body = with_part body part.front part.back part.count part.middle.now

abbrev pub part_bytes : Part → List ℕ
part_bytes part = part_front part.before part.front part.back part.count ++ part.middle.now

-- the body that a change makes of the one before: in two places, the second part is of what the first one makes
abbrev pub with_change : Change → List ℕ → List ℕ
with_change (change.One part) body = made_by part body
with_change (change.Two first second) body = made_by second (made_by first body)

-- where the record begins that told the body before
abbrev pub before_of : Change → ℕ
before_of (change.One part) = part.before
before_of (change.Two first second) = first.before

-- a body of the first length has what is to stay, and the one that is made of it has the second
abbrev pub Lengthens : Part → ℕ → ℕ → Type 0
Lengthens part old new = (4 + part.front + part.back ≤ old) × (new ≡ 4 + part.front + part.back + length part.middle.now)

abbrev pub LengthensBy : Change → ℕ → ℕ → Type 0
LengthensBy (change.One part) old new = Lengthens part old new
LengthensBy (change.Two first second) old new = (mid : ℕ) × Lengthens first old mid × Lengthens second mid new

-- what its record has behind the fields
abbrev pub change_bytes : Change → List ℕ
change_bytes (change.One part) = part_bytes part
change_bytes (change.Two first second) = to_be_bytes w64 (length (part_bytes first)) ++ part_bytes first ++ part_bytes second

abbrev pub note_of : Change → Note
note_of (change.One part) = note.Part
note_of (change.Two first second) = note.Parts
