-- Why a stored file gave no value.
use Rattle.std.specs.Prelude.{◌≡◌, ◌≢◌, ◌⊎◌, List, ℕ, true, false, Option, Some, None, Result, Ok, Err, IsSomeAnd}
use Rattle.eden_model.specs.declared.id.Id.{Id}
use Rattle.eden_overlay_format.specs.declared.header.Head.{Head}
use Rattle.eden_overlay_format.specs.declared.header.Identifier.{Identifier}
use Rattle.eden_overlay_format.specs.declared.header.Identifier.TheVariants as identifier
use Rattle.eden_overlay_format.specs.declared.refusal.Refusal.{Refusal}
use Rattle.eden_overlay_format.specs.declared.refusal.Refusal.TheVariants.{Short, BadIdentifier, BadVersion, BadLength, BadDigest, BadBody}
use Rattle.eden_overlay_format.specs.declared.refusal.DecodeFault.{DecodeFault}
use Rattle.eden_overlay_format.specs.declared.refusal.DecodeFault.TheVariants as decode
use Rattle.eden_overlay_format.specs.Stored.{Refuses}
use Rattle.eden_overlay_format.specs.Content.{content_length}
use Rattle.eden_overlay_format.specs.Numbers.{has_numbers}
use Rattle.eden_overlay_format.specs.Values.{numbers_in}
use Rattle.eden_overlay.specs.declared.files.FilesFault.{FilesFault}
use Rattle.eden_overlay.specs.declared.files.FilesFault.TheVariants as files
use Rattle.eden_overlay.specs.declared.fault.GetFault.{GetFault}
use Rattle.eden_overlay.specs.declared.fault.GetFault.TheVariants as get
use Rattle.eden_overlay.specs.Held.{HeadTells}

-- The fault says why a file that was asked for under that identifier gives no value: it isn't stored; or it is, and its
-- bytes hold none and have that first refusal. The device and memory may fail whatever is stored.
abbrev pub Explains : {X : Type 0} → Identifier → (List ℕ → Option X) → Option (List ℕ) → GetFault → Type 0
Explains i value file get.Absent = file ≡ None
Explains i value file (get.Damaged refusal) = IsSomeAnd file (λ bytes. Refuses i value bytes refusal)
Explains i value file get.Device = Unit {0}
Explains i value file get.Memory = Unit {0}

-- these are the numbers of another tree object's directory
abbrev pub AreOfOther : Id → List ℕ → Type 0
AreOfOther tree bytes = IsSomeAnd (numbers_in bytes) (λ found. found.0 ≢ tree)

-- .. or why it gives no numbers for that tree object: it isn't stored, has no numbers or those of another object; or it has numbers
-- that are refused first for that
abbrev pub ExplainsNumbers : Id → Option (List ℕ) → GetFault → Type 0
ExplainsNumbers tree file get.Absent = (file ≡ None) ⊎ IsSomeAnd file (λ bytes. (has_numbers bytes ≡ false) ⊎ AreOfOther tree bytes)
ExplainsNumbers tree file (get.Damaged refusal) = IsSomeAnd file (λ bytes. (has_numbers bytes ≡ true) × Refuses identifier.Numbers numbers_in bytes refusal)
ExplainsNumbers tree file get.Device = Unit {0}
ExplainsNumbers tree file get.Memory = Unit {0}

-- .. or why a file's head tells no content's length
abbrev pub ExplainsLength : Option (List ℕ) → GetFault → Type 0
ExplainsLength file get.Absent = file ≡ None
ExplainsLength file (get.Damaged refusal) = IsSomeAnd file (λ bytes. HeadTells bytes (Err refusal))
ExplainsLength file get.Device = Unit {0}
ExplainsLength file get.Memory = ⊥

-- what is answered for that head
abbrev pub told_by : Result ℕ Refusal → Result ℕ GetFault
told_by (Ok len) = Ok len
told_by (Err refusal) = Err (get.Damaged refusal)

abbrev pub length_of : Option Head → Result ℕ GetFault
length_of (Some head) = told_by (content_length head.first head.len)
length_of None = Err get.Absent

-- the numbers that stand for faults of the files
abbrev pub files_fault_number : FilesFault → ℕ
files_fault_number files.Device = 1
files_fault_number files.Memory = 2

-- a fault of the files, and one of a decoder, as a get tells it
abbrev pub of_files : FilesFault → GetFault
of_files files.Device = get.Device
of_files files.Memory = get.Memory

abbrev pub of_decoding : DecodeFault → GetFault
of_decoding (decode.Refused refusal) = get.Damaged refusal
of_decoding decode.Memory = get.Memory

-- .. and as a get of numbers tells it: a file that is none of numbers is as none
abbrev pub of_refusal : Refusal → GetFault
of_refusal Short = get.Absent
of_refusal BadIdentifier = get.Absent
of_refusal BadVersion = get.Damaged BadVersion
of_refusal BadLength = get.Damaged BadLength
of_refusal BadDigest = get.Damaged BadDigest
of_refusal BadBody = get.Damaged BadBody

abbrev pub of_numbers : DecodeFault → GetFault
of_numbers (decode.Refused refusal) = of_refusal refusal
of_numbers decode.Memory = get.Memory
