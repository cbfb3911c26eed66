-- What a repair takes out of an overlay's files, and why.
use Rattle.std.specs.Prelude.{◌≡◌, ◌++◌, ℕ, true, false, List, [], ◌∷◌, map, Some, None, IsSomeAnd, Contains}
use Rattle.eden_model.specs.declared.id.Id.{Id}
use Rattle.eden_model.specs.Trees.{Name}
use Rattle.eden_model.specs.declared.kind.Kind.{Kind}
use Rattle.eden_model.specs.declared.kind.Origin.{Origin}
use Rattle.eden_model.specs.declared.kind.Origin.TheVariants as origin
use Rattle.eden_overlay_format.specs.declared.stored_entry.StoredEntry.{StoredEntry}
use Rattle.eden_overlay_format.specs.declared.header.Identifier.TheVariants as identifier
use Rattle.eden_overlay_format.specs.Numbers.{has_numbers}
use Rattle.eden_overlay_format.specs.Stored.{Refuses}
use Rattle.eden_overlay_format.specs.Values.{numbers_in}
use Rattle.eden_overlay.specs.declared.fault.GetFault.TheVariants as get
use Rattle.eden_overlay.specs.Files.{Stored}
use Rattle.eden_overlay.specs.Counting.{root_from}
use Rattle.eden_overlay.specs.Held.{HoldsEntries, root_file, saved_at, with_entries, without}
use Rattle.eden_overlay.specs.Rescanning.{ExplainsKind}
use Rattle.eden_overlay.specs.Soundness.{HasOwn}
use Rattle.eden_repair.specs.declared.damage.Damage.{Damage}
use Rattle.eden_repair.specs.declared.damage.Damage.TheVariants as damage
use Rattle.eden_repair.specs.declared.finding.Finding.{Finding}

-- that is wrong with file k, as the own one of an inode of that kind
abbrev pub IsDamagedSo : Stored → ℕ → Kind → Damage → Type 0
IsDamagedSo F k t damage.Missing = F k ≡ None
IsDamagedSo F k t (damage.Damaged refusal) = ExplainsKind F k t (get.Damaged refusal)
IsDamagedSo F k t damage.Twice = ⊥

-- one of the entries has the number
pub record HasNumber (entries : List StoredEntry) (k : ℕ) : Type 0 where
  pub entry : StoredEntry
  pub there : Contains entries entry
  pub number : entry.number ≡ k

-- what is told of an entry that goes, of a directory at that path
pub record TellsOf (at : List Name) (e : StoredEntry) (d : Damage) (f : Finding) : Type 0 where
  pub path : f.path.items ≡ at ++ e.name ∷ []
  pub number : f.number ≡ e.number
  pub damage : f.damage ≡ d
  pub is_cut : f.is_numbers ≡ false

-- Of a directory's entries, one after another, some stay, and of each other is told why it goes: its own file isn't there, or is damaged;
-- or it has the number of one that stays, in this directory or in one that was looked at before.
pub data Sorts (F : Stored) (at : List Name) (before : List StoredEntry) : List StoredEntry → List StoredEntry → List Finding → Type 0 where
  none : Sorts F at before [] [] []
  stays : (entries kept : List StoredEntry) (cut : List Finding) (e : StoredEntry) → Sorts F at before entries kept cut → HasOwn F e
      → Sorts F at before (entries ++ e ∷ []) (kept ++ e ∷ []) cut
  lost : (entries kept : List StoredEntry) (cut : List Finding) (e : StoredEntry) (d : Damage) (f : Finding) → Sorts F at before entries kept cut
      → e.origin ≡ origin.Own → IsDamagedSo F e.number e.kind d → TellsOf at e d f → Sorts F at before (entries ++ e ∷ []) kept (cut ++ f ∷ [])
  twice : (entries kept : List StoredEntry) (cut : List Finding) (e : StoredEntry) (f : Finding) → Sorts F at before entries kept cut
      → HasNumber (before ++ kept) e.number → TellsOf at e damage.Twice f → Sorts F at before (entries ++ e ∷ []) kept (cut ++ f ∷ [])

-- file k has the numbers of a directory on a tree object, and nothing else
abbrev pub HasNumbersAlone : Stored → ℕ → Type 0
HasNumbersAlone F k = IsSomeAnd (F k) (λ bytes. has_numbers bytes ≡ true)

-- the directory of file d is stored with the entries that stay, unless none was taken out of it
abbrev pub Stores : Stored → ℕ → List StoredEntry → List Finding → Stored → Type 0
Stores G d kept [] H = H ≡ G
Stores G d kept (f ∷ cut) H = H ≡ with_entries G d kept

-- an inode by its number, where it comes from, and a path
pub record Way : Type 0 where
  pub number : ℕ
  pub from : Origin
  pub path : List Name

abbrev pub way : ℕ → Origin → List Name → Way
way k o at = record { number = k; from = o; path = at }

-- the inodes of these entries, of a directory at that path
abbrev pub ways_below : List Name → List StoredEntry → List Way
ways_below at entries = map (λ (e : StoredEntry). way e.number e.origin (at ++ e.name ∷ [])) entries

-- the root, over that tree object, if the files don't make it their own
abbrev pub root_way : Id → Stored → List Way
root_way root F = way 1 (root_from root (root_file F)) [] ∷ []

-- The files F became G, by one own directory after another, each once: its entries are sorted, and those that stay are stored if others
-- go, which are told in order. Listed are the directories that were looked at; the ways to the first inodes and to the entries that stay, of which
-- one leads to the directory, as an own one; and these entries.
pub data Mends (F : Stored) (first : List Way) : List ℕ → List Way → List StoredEntry → List Finding → Stored → Type 0 where
  begun : Mends F first [] first [] [] F
  own : (looked : List ℕ) (ways : List Way) (stayed entries kept : List StoredEntry) (told cut : List Finding) (G H : Stored) (d : ℕ) (at : List Name)
      → Mends F first looked ways stayed told G → ¬ Contains looked d → Contains ways (way d origin.Own at) → HoldsEntries G d entries
      → Sorts G at stayed entries kept cut → Stores G d kept cut H
      → Mends F first (d ∷ looked) (ways ++ ways_below at kept) (stayed ++ kept) (told ++ cut) H

-- one of the entries has the number of one that was met, or of one before it
pub record StandTwice (met entries : List StoredEntry) : Type 0 where
  pub before : List StoredEntry
  pub entry : StoredEntry
  pub after : List StoredEntry
  pub all : entries ≡ before ++ entry ∷ after
  pub twice : HasNumber (met ++ before) entry.number

-- Numbers of a directory on that tree object stand alone in file k, and can't be used: they can't be read, for that reason, so that none of
-- them is met; or they are these entries', of which one has a number that was met.
abbrev pub AreOfNoUse : Stored → ℕ → Id → List StoredEntry → List StoredEntry → Damage → Type 0
AreOfNoUse F k tree met entries damage.Missing = ⊥
AreOfNoUse F k tree met entries (damage.Damaged refusal) =
    HasNumbersAlone F k × (IsSomeAnd (F k) (λ bytes. Refuses identifier.Numbers numbers_in bytes refusal) × (entries ≡ []))
AreOfNoUse F k tree met entries damage.Twice = HasNumbersAlone F k × ((saved_at F k tree ≡ Some entries) × StandTwice met entries)

-- The files F became G, by one directory with such numbers after another: they are saved for its tree object, and their entries stay, with
-- their ways; or they are of no use, which is told, and are gone. Listed are the ways, and the entries that were met; both are first those
-- of what stays in own directories.
pub data Forgets (F : Stored) (first : List Way) (stayed : List StoredEntry) : List Way → List StoredEntry → List Finding → Stored → Type 0 where
  begun : Forgets F first stayed first stayed [] F
  saved : (ways : List Way) (met : List StoredEntry) (told : List Finding) (G : Stored) (d : ℕ) (at : List Name) (tree : Id) (entries : List StoredEntry)
      → Forgets F first stayed ways met told G → Contains ways (way d (origin.Object tree) at) → saved_at G d tree ≡ Some entries
      → Forgets F first stayed (ways ++ ways_below at entries) (met ++ entries) told G
  forgotten : (ways : List Way) (met : List StoredEntry) (told : List Finding) (G : Stored) (f : Finding) (tree : Id) (entries : List StoredEntry)
      → Forgets F first stayed ways met told G → Contains ways (way f.number (origin.Object tree) f.path.items)
      → AreOfNoUse G f.number tree met entries f.damage → f.is_numbers ≡ true
      → Forgets F first stayed ways (met ++ entries) (told ++ f ∷ []) (without G f.number)

-- the files F, over that commit's tree, became G, and all that was taken out is told: first own directories were mended, from the root on,
-- and then numbers forgotten
pub record IsRepaired (F : Stored) (root : Id) (told : List Finding) (G : Stored) : Type 0 where
  pub looked : List ℕ
  pub ways : List Way
  pub stayed : List StoredEntry
  pub cut : List Finding
  pub between : Stored
  pub last : List Way
  pub met : List StoredEntry
  pub forgotten : List Finding
  pub mends : Mends F (root_way root F) looked ways stayed cut between
  pub forgets : Forgets between ways stayed last met forgotten G
  pub all : told ≡ cut ++ forgotten
