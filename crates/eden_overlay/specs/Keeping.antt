-- What is kept of stored files in memory, and known of them.
use Rattle.std.specs.Prelude.{ℕ, ◌≡◌, ◌≤◌, ◌<◌, ◌==◌, ◌+◌, ◌++◌, ◌^◌, ◌⊎◌, Bool, true, not, List, [], ◌∷◌, find, filter, length}
use Rattle.std.specs.Prelude.{Option, Some, None, option_map, IsSome, if◌then◌else◌}
use Rattle.std.specs.List.{list_any}
use Rattle.std.specs.Option.{option_or}
use Rattle.eden_overlay_format.specs.declared.stored_entry.StoredEntry.{StoredEntry}
use Rattle.eden_overlay.specs.declared.recent_bodies.KeptBody.{KeptBody}
use Rattle.eden_overlay.specs.declared.recent_bodies.TwoBodies.{TwoBodies}
use Rattle.eden_overlay.specs.declared.recent.Kept.{Kept}
use Rattle.eden_overlay.specs.Files.{Stored}
use Rattle.eden_overlay.specs.Held.{HoldsContent, HoldsEntries, content_at}

-- each content that is kept is the one that its file holds
unfoldable pub AreKeptOf : Stored → List Kept → Type 0
AreKeptOf F [] = Unit {0}
AreKeptOf F (k ∷ kept) = HoldsContent F k.number k.content × AreKeptOf F kept

-- what is kept of that file
abbrev pub is_of : ℕ → Kept → Bool
is_of number k = k.number == number

abbrev pub kept_of : ℕ → List Kept → Option Kept
kept_of number kept = find (is_of number) kept

abbrev pub kept_content : ℕ → List Kept → Option (List ℕ)
kept_content number kept = option_map (λ k. k.content) (kept_of number kept)

abbrev pub kept_length : ℕ → List Kept → Option ℕ
kept_length number kept = option_map (λ k. length k.content) (kept_of number kept)

-- .. and of the others
abbrev pub of_others : ℕ → List Kept → List Kept
of_others number kept = filter (λ k. not (is_of number k)) kept

-- those of a list that stand behind some of it
abbrev pub IsEndOf : List Kept → List Kept → Type 0
IsEndOf rest kept = (gone : List Kept) × (kept ≡ gone ++ rest)

-- how many bytes they are together
unfoldable pub kept_bytes : List Kept → ℕ
kept_bytes [] = 0
kept_bytes (k ∷ kept) = length k.content + kept_bytes kept

-- at most eight, of so many bytes together, or one that is longer
abbrev pub Fits : ℕ → List Kept → Type 0
Fits most kept = (length kept ≤ 8) × ((kept_bytes kept ≤ most) ⊎ (length kept ≤ 1))

-- a content of that length has room beside them
abbrev pub HasRoomBeside : ℕ → ℕ → List Kept → Type 0
HasRoomBeside most long kept = (length kept < 8) × (kept_bytes kept + long ≤ most)

-- What is left of them once there is room for a content of that length: no more than has to go went, those in front first.
pub record IsLeft (most long : ℕ) (rest kept : List Kept) : Type 0 where
  pub end : IsEndOf rest kept
  pub room : (rest ≡ []) ⊎ HasRoomBeside most long rest
  pub no_more : (more : List Kept) → IsEndOf more kept → HasRoomBeside most long more → length more ≤ length rest

-- that one is the last of them now, behind what is left of the others
abbrev pub IsLast : ℕ → Kept → List Kept → List Kept → Type 0
IsLast most x new kept = (rest : List Kept) × (IsLeft most (length x.content) rest (of_others x.number kept) × (new ≡ rest ++ x ∷ []))

-- whether it is one of the numbers
abbrev pub is_one_of : ℕ → List ℕ → Bool
is_one_of number numbers = list_any (λ k. k == number) numbers

-- each of them is the number of a file that holds a content, whatever that is
abbrev pub AreWhole : Stored → List ℕ → Type 0
AreWhole F numbers = (k : ℕ) → is_one_of k numbers ≡ true → IsSome (content_at F k)

-- the others
abbrev pub other_numbers : ℕ → List ℕ → List ℕ
other_numbers number numbers = filter (λ k. not (k == number)) numbers

-- at most that one came
abbrev pub AddsOne : ℕ → List ℕ → List ℕ → Type 0
AddsOne number old new = (k : ℕ) → is_one_of k new ≡ true → (k ≡ number) ⊎ (is_one_of k old ≡ true)

-- all that is kept and known of the files is so
abbrev pub AreKnownOf : Stored → List Kept → List ℕ → Type 0
AreKnownOf F kept numbers = AreKeptOf F kept × AreWhole F numbers

-- ---- the directories whose bodies are kept

-- the entries of a body are those that its file holds
unfoldable pub IsBodyKept : Stored → Option KeptBody → Type 0
IsBodyKept F None = Unit {0}
IsBodyKept F (Some k) = HoldsEntries F k.number k.body

-- .. of each of two
abbrev pub AreBodiesKept : Stored → TwoBodies → Type 0
AreBodiesKept F two = IsBodyKept F two.latest × IsBodyKept F two.earlier

-- the entries of that directory, if this is its body
abbrev pub body_entries : ℕ → Option KeptBody → Option (List StoredEntry)
body_entries number None = None
body_entries number (Some k) = if k.number == number then Some k.body else None

-- .. if one of the two is
abbrev pub kept_entries : ℕ → TwoBodies → Option (List StoredEntry)
kept_entries number two = option_or (body_entries number two.latest) (body_entries number two.earlier)

-- the body, if it is of another directory
abbrev pub body_but : ℕ → Option KeptBody → Option KeptBody
body_but number None = None
body_but number (Some k) = if k.number == number then None else Some k

-- .. those of others
abbrev pub kept_but : ℕ → TwoBodies → TwoBodies
kept_but number two = record { latest = body_but number two.latest; earlier = body_but number two.earlier }

-- with this as the latest, and beside it the later one of the two
abbrev pub kept_with : KeptBody → TwoBodies → TwoBodies
kept_with k two = record { latest = Some k; earlier = option_or two.latest two.earlier }

-- a body of so many bytes is kept: from 256 bytes to 4 MiB
abbrev pub IsKeptLong : ℕ → Type 0
IsKeptLong long = (2 ^ 8 ≤ long) × (long ≤ 2 ^ 22)
