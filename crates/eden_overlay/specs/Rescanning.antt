-- What a pass over the directories that count finds.
use Rattle.std.specs.Prelude.{◌≡◌, ◌⊎◌, ◌+◌, ◌<◌, ◌≤◌, ℕ, None, IsSome}
use Rattle.eden_model.specs.Limits.{number_least, number_end}
use Rattle.eden_model.specs.Failures.{Rose}
use Rattle.eden_model.specs.declared.id.Id.{Id}
use Rattle.eden_model.specs.declared.kind.Kind.{Kind}
use Rattle.eden_model.specs.declared.kind.Kind.TheVariants as kind
use Rattle.eden_model.specs.declared.kind.Origin.TheVariants as origin
use Rattle.eden_overlay_format.specs.declared.header.Identifier.TheVariants as identifier
use Rattle.eden_overlay_format.specs.declared.refusal.Refusal.{Refusal}
use Rattle.eden_overlay_format.specs.declared.refusal.Refusal.TheVariants.{BadBody}
use Rattle.eden_overlay_format.specs.Values.{content_in, entries_in}
use Rattle.eden_overlay.specs.declared.files.FilesFault.{FilesFault}
use Rattle.eden_overlay.specs.declared.files.FilesFault.TheVariants as files
use Rattle.eden_overlay.specs.declared.fault.GetFault.{GetFault}
use Rattle.eden_overlay.specs.declared.fault.GetFault.TheVariants as get
use Rattle.eden_overlay.specs.declared.rescan.RescanFault.{RescanFault}
use Rattle.eden_overlay.specs.declared.rescan.RescanFault.TheVariants as fault
use Rattle.eden_overlay.specs.Files.{Stored}
use Rattle.eden_overlay.specs.Counting.{Counts, Counted, NumbersAreSound}
use Rattle.eden_overlay.specs.Getting.{Explains, ExplainsNumbers}
use Rattle.eden_overlay.specs.Held.{root_file}
use Rattle.eden_overlay.specs.Soundness.{AreSound}

-- the next number is above each that a directory lists which counts, and above each file's; and one more than such a one, or the least
pub record IsNextOf (F : Stored) (root : Id) (next : ℕ) : Type 0 where
  pub below : (n : Counted F root) → n.entry.number < next
  pub above : (k : ℕ) → IsSome (F k) → k < next
  pub least : number_least ≤ next
  pub last : (next ≡ number_least) ⊎ ((n : Counted F root) × (next ≡ n.entry.number + 1)) ⊎ ((k : ℕ) × (IsSome (F k) × (next ≡ k + 1)))

-- ---- what is wrong with the files

-- a directory that counts lists file k as the own one of an entry of that kind
pub record IsOwned (F : Stored) (root : Id) (k : ℕ) (t : Kind) : Type 0 where
  pub place : Counted F root
  pub has_number : place.entry.number ≡ k
  pub has_kind : place.entry.kind ≡ t
  pub is_own : place.entry.origin ≡ origin.Own

-- .. and there is no such file
pub record IsDangling (F : Stored) (root : Id) (k : ℕ) : Type 0 where
  pub wanted : Kind
  pub owned : IsOwned F root k wanted
  pub absent : F k ≡ None

-- two entries of directories that count have the number, or one entry of two of them
pub record IsTwice (F : Stored) (root : Id) (k : ℕ) : Type 0 where
  pub first : Counted F root
  pub second : Counted F root
  pub first_number : first.entry.number ≡ k
  pub second_number : second.entry.number ≡ k
  pub apart : ¬ ((first.directory ≡ second.directory) × (first.entry ≡ second.entry))

-- the fault says why file k holds no inode of that kind
abbrev pub ExplainsKind : Stored → ℕ → Kind → GetFault → Type 0
ExplainsKind F k kind.Dir f = Explains identifier.Directory entries_in (F k) f
ExplainsKind F k _ f = Explains identifier.File content_in (F k) f

-- what a directory that counts lists as its own is none of its kind; and that is why
pub record IsNoneOfKind (F : Stored) (root : Id) (k : ℕ) (refusal : Refusal) : Type 0 where
  pub wanted : Kind
  pub owned : IsOwned F root k wanted
  pub why : ExplainsKind F k wanted (get.Damaged refusal)

-- file k has the numbers of a directory that counts, whatever the tree object, and isn't in its grammar; and that is why
pub record HasBadNumbers (F : Stored) (root : Id) (k : ℕ) (refusal : Refusal) : Type 0 where
  pub tree : Id
  pub counts : Counts F root k (origin.Object tree)
  pub why : ExplainsNumbers tree (F k) (get.Damaged refusal)

-- the root's file is no directory
abbrev pub HasNoRoot : Stored → ℕ → Refusal → Type 0
HasNoRoot F k refusal = (k ≡ 1) × Explains identifier.Directory entries_in (root_file F) (get.Damaged refusal)

-- no number is left above that of a file, which is told as a bad body of the root's
abbrev pub HasNoNext : Stored → ℕ → Refusal → Type 0
HasNoNext F k refusal = (k ≡ 1) × (refusal ≡ BadBody) × ((n : ℕ) × (IsSome (F n) × (number_end ≤ n)))

-- the file of that number is damaged
abbrev pub IsDamaged : Stored → Id → ℕ → Refusal → Type 0
IsDamaged F root k refusal = HasNoRoot F k refusal ⊎ IsNoneOfKind F root k refusal ⊎ HasBadNumbers F root k refusal ⊎ HasNoNext F k refusal

-- what a fault says of the files, but for the device and memory, which may fail whatever is stored
abbrev pub Accuses : Stored → Id → RescanFault → Type 0
Accuses F root (fault.Dangling k) = IsDangling F root k
Accuses F root (fault.Twice k) = IsTwice F root k
Accuses F root (fault.Damaged k refusal) = IsDamaged F root k refusal
Accuses F root fault.Device = ⊥
Accuses F root fault.Memory = ⊥

-- The fault of a pass over those files, which are of that commit's tree: the device failed; there was no memory; or the files are as
-- it says, where the outside is honest. The counts are those of the device's failures before and after.
abbrev pub IsRescanFault : Type 0 → Stored → Id → ℕ → ℕ → RescanFault → Type 0
IsRescanFault honest F root old new fault.Device = Rose old new
IsRescanFault honest F root old new fault.Memory = Unit {0}
IsRescanFault honest F root old new f = honest → Accuses F root f

-- no name dangles, the numbers are sound too, and one is left to give
pub record CanRescan (F : Stored) (root : Id) : Type 0 where
  pub sound : AreSound F
  pub numbers : NumbersAreSound F root
  pub left : (k : ℕ) → IsSome (F k) → k < number_end

-- whoever accuses files rightly shows that they aren't so
abbrev pub AccusedUnsound : Type 0
AccusedUnsound = (F : Stored) (root : Id) (f : RescanFault) → Accuses F root f → ¬ CanRescan F root

-- a fault of the files, as a pass tells it
abbrev pub of_files : FilesFault → RescanFault
of_files files.Device = fault.Device
of_files files.Memory = fault.Memory
