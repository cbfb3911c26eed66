-- How far a repair has come.
use Rattle.std.specs.Prelude.{[], ◌∷◌, ◌≡◌, ◌⊎◌, ◌++◌, ℕ, Bool, true, List, Contains, Option, Some, None}
use Rattle.eden_model.specs.declared.kind.Origin.TheVariants as origin
use Rattle.eden_overlay_format.specs.declared.stored_entry.StoredEntry.{StoredEntry}
use Rattle.eden_overlay.specs.Counting.{HasGoodNumbers}
use Rattle.eden_overlay.specs.Files.{Stored}
use Rattle.eden_overlay.specs.Held.{saved_at}
use Rattle.eden_repair.specs.declared.damage.Damage.{Damage}
use Rattle.eden_repair.specs.declared.damage.Damage.TheVariants as damage
use Rattle.eden_repair.specs.declared.finding.Finding.{Finding}
use Rattle.eden_repair.specs.declared.survey.Directory.{Directory}
use Rattle.eden_repair.specs.declared.survey.Sorted.{Sorted}
use Rattle.eden_repair.specs.declared.saved.Numbers.{Numbers}
use Rattle.eden_repair.specs.declared.saved.Numbers.TheVariants as numbers
use Rattle.eden_model.specs.declared.id.Id.{Id}
use Rattle.eden_overlay_format.specs.Directory.{AreStorable}
use Rattle.eden_overlay_format.specs.Numbers.{none_is_own}
use Rattle.eden_repair.specs.Covering.{CoversOn, IsNewThen}
use Rattle.eden_repair.specs.Repairing.{Way, AreOfNoUse, Forgets, HasNumber, HasNumbersAlone, IsDamagedSo, Mends, Sorts, way}
use Rattle.std.specs.BTreeSet.{BTreeSet, contains}
use Rattle.std.specs.Ordering.{nat_cmp}
use Rattle.eden_model.specs.Trees.{Name}

-- each number that was met is one of these entries'
abbrev pub AreOf : (ℕ → Bool) → List StoredEntry → Type 0
AreOf was_met entries = (k : ℕ) → was_met k ≡ true → HasNumber entries k

-- the entry goes for that reason: its own file is damaged, or its number was met
abbrev pub Goes : Stored → (ℕ → Bool) → StoredEntry → Damage → Type 0
Goes F was_met e d = ((e.origin ≡ origin.Own) × IsDamagedSo F e.number e.kind d) ⊎ ((d ≡ damage.Twice) × (was_met e.number ≡ true))

-- each directory that was looked at was seen
abbrev pub WereSeen : List ℕ → (ℕ → Bool) → Type 0
WereSeen looked was_seen = (d : ℕ) → Contains looked d → was_seen d ≡ true

-- the way to a directory
abbrev pub way_of : Directory → Way
way_of x = way x.number x.origin x.path.items

-- one of the ways leads to each directory that is left
pub record AreLed (ways : List Way) (left : List Directory) : Type 0 where
  pub each : (x : Directory) → Contains left x → Contains ways (way_of x)

-- own directories were mended so far; the numbers that were met are those of entries that stay, and each directory that was looked at was seen
pub record Mended (F : Stored) (first : List Way) (told : List Finding) (G : Stored) (was_met was_seen : ℕ → Bool) (left : List Directory)
    : Type 0 where
  pub looked : List ℕ
  pub ways : List Way
  pub stayed : List StoredEntry
  pub mends : Mends F first looked ways stayed told G
  pub met : AreOf was_met stayed
  pub seen : WereSeen looked was_seen
  pub led : AreLed ways left

-- whatever was mended before that directory was looked at, more is mended then, with those below it left
abbrev pub MendsOn : Directory → List Finding → Stored → BTreeSet ℕ → BTreeSet ℕ → List Finding → Stored → BTreeSet ℕ → BTreeSet ℕ → List Directory → Type 0
MendsOn x told F was_met was_seen told_then G is_met is_seen below =
    (begun : Stored) (first : List Way) (rest : List Directory)
    → Mended begun first told F (contains nat_cmp was_met) (contains nat_cmp was_seen) (x ∷ rest)
    → Mended begun first told_then G (contains nat_cmp is_met) (contains nat_cmp is_seen) (below ++ rest)

-- own directories were mended so far, and these are left
pub record IsMended (F : Stored) (first : List Way) (told : List Finding) (G : Stored) (left : List Directory) : Type 0 where
  pub looked : List ℕ
  pub ways : List Way
  pub stayed : List StoredEntry
  pub mends : Mends F first looked ways stayed told G
  pub led : AreLed ways left

-- .. and the numbers that were met are those of entries that stay
pub record AreMended (F : Stored) (first : List Way) (told : List Finding) (G : Stored) (was_met : ℕ → Bool) (left : List Directory) : Type 0 where
  pub mended : IsMended F first told G left
  pub met : AreOf was_met mended.stayed

-- what was told grew by numbers that were forgotten
pub record ForgetsSome (F : Stored) (first : List Way) (stayed : List StoredEntry) (before : List Finding) (G : Stored) (after : List Finding) : Type 0 where
  pub ways : List Way
  pub met : List StoredEntry
  pub forgotten : List Finding
  pub forgets : Forgets F first stayed ways met forgotten G
  pub told : after ≡ before ++ forgotten

-- .. after these directories, and those below them, were looked at
abbrev pub ForgetsThen : List Directory → Stored → (ℕ → Bool) → List Finding → Stored → List Finding → Type 0
ForgetsThen left F was_met before G after =
    (first : List Way) (stayed : List StoredEntry) → AreLed first left → AreOf was_met stayed → ForgetsSome F first stayed before G after

-- .. and these directories are left, and the numbers that were met are entries'
pub record ForgetsMore (F : Stored) (first : List Way) (stayed : List StoredEntry) (before : List Finding) (G : Stored) (after : List Finding)
    (was_met : ℕ → Bool) (left : List Directory) : Type 0 where
  pub some : ForgetsSome F first stayed before G after
  pub led : AreLed some.ways left
  pub are : AreOf was_met some.met

-- .. after that directory was looked at, with those below it left
abbrev pub ForgetsOn : Directory → Stored → (ℕ → Bool) → List Finding → Stored → (ℕ → Bool) → List Finding → List Directory → Type 0
ForgetsOn x F was_met before G is_met after below =
    (first : List Way) (stayed : List StoredEntry) (rest : List Directory) → AreLed first (x ∷ rest) → AreOf was_met stayed
    → ForgetsMore F first stayed before G after is_met (below ++ rest)

-- it is told that the directory's numbers are forgotten, for that reason
pub record TellsNumbers (x : Directory) (d : Damage) (before after : List Finding) : Type 0 where
  pub finding : Finding
  pub more : after ≡ before ++ finding ∷ []
  pub path : finding.path.items ≡ x.path.items
  pub number : finding.number ≡ x.number
  pub damage : finding.damage ≡ d
  pub is_numbers : finding.is_numbers ≡ true

-- the numbers that are met then: one more if the entry stays
abbrev pub IsMetThen : ℕ → Option Damage → (ℕ → Bool) → (ℕ → Bool) → Type 0
IsMetThen k None was is = IsNewThen k was is
IsMetThen k (Some d) was is = (q : ℕ) → is q ≡ was q

-- an own directory takes the survey on, if each number that was met is an entry's
abbrev pub CoversOwn : Directory → Stored → (ℕ → Bool) → (ℕ → Bool) → List Directory → Stored → (ℕ → Bool) → (ℕ → Bool) → Type 0
CoversOwn x F was_met was_seen below G is_met is_seen =
    (entries : List StoredEntry) → AreOf was_met entries → CoversOn x F was_met was_seen below G is_met is_seen

-- these entries are sorted so, and the numbers that were met are those of entries that stay
pub record SortsOn (F : Stored) (at : List Name) (before entries : List StoredEntry) (s : Sorted) (was_met : ℕ → Bool) : Type 0 where
  pub sorts : Sorts F at before entries s.listing s.cut.items
  pub met : AreOf was_met (before ++ s.listing)

-- whatever was sorted before, one entry more is sorted now
abbrev pub SortsOneMore : Stored → List Name → StoredEntry → Sorted → Sorted → (ℕ → Bool) → (ℕ → Bool) → Type 0
SortsOneMore F at e s t was_met is_met =
    (stayed entries : List StoredEntry) → AreOf was_met (stayed ++ s.listing) → Sorts F at stayed entries s.listing s.cut.items
    → SortsOn F at stayed (entries ++ e ∷ []) t is_met

-- What was had of the numbers in file k: none of that tree object are saved; or these are, and stand alone in it; or they are refused, for
-- that reason.
abbrev pub AreNumbers : Stored → ℕ → Id → Numbers → Type 0
AreNumbers F k tree numbers.None = (saved_at F k tree ≡ None) × HasGoodNumbers (F k)
AreNumbers F k tree (numbers.Entries entries) = HasNumbersAlone F k × ((saved_at F k tree ≡ Some entries.items) × HasGoodNumbers (F k))
AreNumbers F k tree (numbers.Refused refusal) = AreOfNoUse F k tree [] [] (damage.Damaged refusal)

-- the entries that were had are those of a directory on a tree object
abbrev pub AreOfTree : Numbers → Type 0
AreOfTree numbers.None = Unit {0}
AreOfTree (numbers.Entries entries) = AreStorable entries.items × (none_is_own entries.items ≡ true)
AreOfTree (numbers.Refused refusal) = Unit {0}
