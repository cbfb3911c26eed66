-- What of the files a survey covers: the entries that stay, so that at its end nothing that counts is damaged.
use Rattle.std.specs.Prelude.{◌≡◌, ◌≢◌, ◌⊎◌, ◌++◌, ◌∷◌, ◌==◌, ℕ, Bool, true, false, List, Contains, if◌then◌else◌}
use Rattle.eden_model.specs.declared.id.Id.{Id}
use Rattle.eden_model.specs.declared.kind.Kind.TheVariants as kind
use Rattle.eden_model.specs.declared.kind.Origin.{Origin}
use Rattle.eden_model.specs.declared.kind.Origin.TheVariants as origin
use Rattle.eden_overlay_format.specs.declared.stored_entry.StoredEntry.{StoredEntry}
use Rattle.eden_overlay.specs.declared.rescan.RescanFault.{RescanFault}
use Rattle.eden_overlay.specs.declared.rescan.RescanFault.TheVariants as fault
use Rattle.eden_overlay.specs.Counting.{Counted, HasGoodNumbers, ListsEntry, NumbersAreSound, root_from}
use Rattle.eden_overlay.specs.Files.{Stored}
use Rattle.eden_overlay.specs.Held.{root_file}
use Rattle.eden_overlay.specs.Rescanning.{HasNoNext, HasNoRoot}
use Rattle.eden_overlay.specs.Soundness.{HasOwn}
use Rattle.eden_overlay.specs.Walking.{Place}
use Rattle.eden_repair.specs.declared.survey.Directory.{Directory}

-- Of what a rescan tells, a repair leaves this: the device, want of memory, a root's file that is no directory, and that no number is left
-- above a file's.
abbrev pub CantBeMended : Stored → RescanFault → Type 0
CantBeMended F (fault.Dangling k) = ⊥
CantBeMended F (fault.Twice k) = ⊥
CantBeMended F (fault.Damaged k refusal) = HasNoRoot F k refusal ⊎ HasNoNext F k refusal
CantBeMended F fault.Device = Unit {0}
CantBeMended F fault.Memory = Unit {0}

-- no entry that counts lacks its file, and the numbers are sound
pub record IsWhole (F : Stored) (root : Id) : Type 0 where
  pub own : (n : Counted F root) → HasOwn F n.entry
  pub numbers : NumbersAreSound F root

-- ---- entries that are met

-- the number is met then, and wasn't before
abbrev pub IsNewThen : ℕ → (ℕ → Bool) → (ℕ → Bool) → Type 0
IsNewThen k was is = (was k ≡ false) × ((q : ℕ) → is q ≡ (if k == q then true else was q))

-- the numbers of these entries are met then, each once, and none was before; what was met stays so
pub record AreNew (entries : List StoredEntry) (was is : ℕ → Bool) : Type 0 where
  pub fresh : (e : StoredEntry) → Contains entries e → was e.number ≡ false
  pub met : (e : StoredEntry) → Contains entries e → is e.number ≡ true
  pub once : (e f : StoredEntry) → Contains entries e → Contains entries f → e.number ≡ f.number → e ≡ f
  pub stay : (k : ℕ) → was k ≡ true → is k ≡ true

-- the directory is one of those that are left to look at
pub record IsLeft (left : List Directory) (d : ℕ) (o : Origin) : Type 0 where
  pub directory : Directory
  pub there : Contains left directory
  pub number : directory.number ≡ d
  pub from : directory.origin ≡ o

-- one of the entries names the directory
pub record NamesOne (entries : List StoredEntry) (d : ℕ) (o : Origin) : Type 0 where
  pub entry : StoredEntry
  pub there : Contains entries entry
  pub is_directory : entry.kind ≡ kind.Dir
  pub number : entry.number ≡ d
  pub from : entry.origin ≡ o

-- the directories among the entries are left to look at
pub record AreBelow (entries : List StoredEntry) (below : List Directory) : Type 0 where
  pub all : (e : StoredEntry) → Contains entries e → e.kind ≡ kind.Dir → IsLeft below e.number e.origin
  pub only : (x : Directory) → Contains below x → NamesOne entries x.number x.origin

-- no directory that is left is an own one
abbrev pub NoneIsOwn : List Directory → Type 0
NoneIsOwn left = (x : Directory) → Contains left x → x.origin ≢ origin.Own

-- ---- entries that stay

abbrev pub place : ℕ → Origin → StoredEntry → Place
place d o e = record { directory = d; from = o; entry = e }

-- an entry that stays names the directory
pub record IsNamed (stay : List Place) (d : ℕ) (o : Origin) : Type 0 where
  pub at : Place
  pub there : Contains stay at
  pub is_directory : at.entry.kind ≡ kind.Dir
  pub number : at.entry.number ≡ d
  pub from : at.entry.origin ≡ o

-- the root, which comes from there, or a directory that an entry names which stays
abbrev pub IsKnown : Origin → List Place → ℕ → Origin → Type 0
IsKnown top stay d o = ((d ≡ 1) × (o ≡ top)) ⊎ IsNamed stay d o

-- each entry that files hold for the directory stays, and what is saved of its numbers is good
pub record IsDone (F : Stored) (stay : List Place) (d : ℕ) (o : Origin) : Type 0 where
  pub entries : (e : StoredEntry) → ListsEntry F d o e → Contains stay (place d o e)
  pub numbers : (tree : Id) → o ≡ origin.Object tree → HasGoodNumbers (F d)

-- The entries that stay have their files, and numbers of their own, which were met. Each directory that is known is left to look at, or is
-- done.
pub record Covers (F : Stored) (root : Id) (from : Origin) (stay : List Place) (left : List Directory) (was_met : ℕ → Bool) : Type 0 where
  pub top : root_from root (root_file F) ≡ from
  pub own : (p : Place) → Contains stay p → HasOwn F p.entry
  pub met : (p : Place) → Contains stay p → was_met p.entry.number ≡ true
  pub once : (p q : Place) → Contains stay p → Contains stay q → p.entry.number ≡ q.entry.number → p ≡ q
  pub known : (x : Directory) → Contains left x → IsKnown from stay x.number x.origin
  pub each : (d : ℕ) (o : Origin) → IsKnown from stay d o → IsLeft left d o ⊎ IsDone F stay d o

-- of each own directory that was seen all entries stay
abbrev pub AreDone : Stored → List Place → (ℕ → Bool) → Type 0
AreDone F stay was_seen = (d : ℕ) → was_seen d ≡ true → (e : StoredEntry) → ListsEntry F d origin.Own e → Contains stay (place d origin.Own e)

-- so far the files are covered
pub record IsCovered (F : Stored) (root : Id) (left : List Directory) (was_met was_seen : ℕ → Bool) : Type 0 where
  pub from : Origin
  pub stay : List Place
  pub covers : Covers F root from stay left was_met
  pub seen : AreDone F stay was_seen

-- where no directory was seen
abbrev pub none_seen : ℕ → Bool
none_seen d = false

-- whatever was covered with these directories left, is covered with those left
abbrev pub CoversThen : List Directory → Stored → (ℕ → Bool) → List Directory → Stored → (ℕ → Bool) → Type 0
CoversThen left F was_met left_then G is_met = (root : Id) → IsCovered F root left was_met none_seen → IsCovered G root left_then is_met none_seen

-- whatever was covered before that directory was looked at, is covered then, with those below it left
abbrev pub CoversOn : Directory → Stored → (ℕ → Bool) → (ℕ → Bool) → List Directory → Stored → (ℕ → Bool) → (ℕ → Bool) → Type 0
CoversOn x F was_met was_seen below G is_met is_seen =
    (root : Id) (rest : List Directory) → IsCovered F root (x ∷ rest) was_met was_seen → IsCovered G root (below ++ rest) is_met is_seen
