-- Files that a checkout is opened over, and why it isn't.
use Rattle.std.specs.Prelude.{◌≡◌, ◌≢◌, ◌<◌, ◌≤◌, ◌+◌, ◌++◌, ◌⊎◌, ℕ, List, [], ◌∷◌, Option, Some, None, IsSome}
use Rattle.std.specs.Option.{option_and_then, option_map}
use Rattle.eden_model.specs.declared.id.Id.{Id}
use Rattle.eden_model.specs.declared.kind.Kind.TheVariants as kind
use Rattle.eden_model.specs.declared.kind.Origin.{Origin}
use Rattle.eden_model.specs.declared.kind.Origin.TheVariants as origin
use Rattle.eden_model.specs.Failures.{Rose}
use Rattle.eden_model.specs.Backing.{AreShown, Backs}
use Rattle.eden_model.specs.Named.{named}
use Rattle.eden_model.specs.Numbers.{Numbering, Numbers}
use Rattle.eden_model.specs.Repository.{Repository, source_of, entries_with, ground_with}
use Rattle.eden_model.specs.Shown.{if_dir, shown}
use Rattle.eden_model.specs.Trees.{Path, Tree}
use Rattle.eden_overlay_format.specs.declared.header.Identifier.TheVariants as identifier
use Rattle.eden_overlay_format.specs.declared.refusal.Refusal.{Refusal}
use Rattle.eden_overlay_format.specs.declared.state.State.{State}
use Rattle.eden_overlay_format.specs.declared.stored_entry.StoredEntry.{StoredEntry}
use Rattle.eden_overlay_format.specs.Values.{state_in}
use Rattle.eden_overlay.specs.declared.fault.GetFault.TheVariants as get
use Rattle.eden_overlay.specs.declared.files.Files.{Ghosts as Files}
use Rattle.eden_overlay.specs.declared.files.FilesFault.{FilesFault}
use Rattle.eden_overlay.specs.declared.files.FilesFault.TheVariants as files
use Rattle.eden_overlay.specs.Files.{Stored}
use Rattle.eden_overlay.specs.Getting.{Explains, ExplainsNumbers}
use Rattle.eden_overlay.specs.Held.{HoldsState, root_file, saved_at, item_of, items_of, own_files}
use Rattle.eden_overlay.specs.declared.rescan.RescanFault.{RescanFault}
use Rattle.eden_overlay.specs.declared.rescan.RescanFault.TheVariants as rescan
use Rattle.eden_overlay.specs.Counting.{root_from, listing_at, HasGoodNumbers}
use Rattle.eden_overlay.specs.Rescanning.{ExplainsKind, HasNoNext}
use Rattle.eden_overlay.specs.Soundness.{AreSound}
use Rattle.eden_inode.specs.Tables.{Table, shows_numbers}
use Rattle.eden_cache.specs.Cache.{Cache}
use Rattle.eden_checkout.specs.Checkouts.{Checkout}
use Rattle.eden_checkout.specs.declared.fault.OpenFault.{OpenFault}
use Rattle.eden_checkout.specs.declared.fault.OpenFault.TheVariants as opens
use Rattle.eden_checkout.specs.declared.opening.Opening.{Opening}
use Rattle.eden_checkout.specs.declared.opening.Opening.TheVariants as opening
use Rattle.eden_checkout.specs.declared.opening.Start.{Start}

-- ---- what files show

-- the root, as a directory would list it
abbrev pub root_entry : Id → Stored → StoredEntry
root_entry root F = record { name = []; kind = kind.Dir; origin = root_from root (root_file F); number = 1 }

-- the tree that files show above a commit's
abbrev pub files_show : Repository → Id → Stored → Tree
files_show R root F = shown (ground_with R (own_files F)) (item_of (root_entry root F))

-- the entry at a path from an entry on, as far as files list directories
abbrev pub listed_at : Stored → StoredEntry → Path → Option StoredEntry
listed_at F e [] = Some e
listed_at F e (n ∷ p) =
    option_and_then (λ es. option_and_then (λ c. listed_at F c p) (named (λ (c : StoredEntry). c.name) n es)) (if_dir e.kind (listing_at F e.number e.origin))

-- the inode numbers that files show above the commit's tree
abbrev pub files_number : Id → Stored → Numbering
files_number root F = λ p. option_map (λ (e : StoredEntry). e.number) (listed_at F (root_entry root F) p)

-- files list that entry
abbrev pub IsListed : Id → Stored → StoredEntry → Type 0
IsListed root F e = (p : Path) × (listed_at F (root_entry root F) p ≡ Some e)

-- ---- what is found

-- the root is the commit's tree, or the mount's own
abbrev pub IsRootOf : Id → Origin → Type 0
IsRootOf root o = (o ≡ origin.Object root) ⊎ (o ≡ origin.Own)

abbrev pub AreNone : Stored → Type 0
AreNone F = (k : ℕ) → F k ≡ None

-- What a rescan finds: no name dangles, what has numbers is in its grammar, none is shown twice, and the next one is above each that
-- is shown and each file's, and one above one of them.
pub record IsRescanned (root : Id) (F : Stored) (next : ℕ) : Type 0 where
  pub sound : AreSound F
  pub good : (e : StoredEntry) (tree : Id) → IsListed root F e → e.kind ≡ kind.Dir → e.origin ≡ origin.Object tree → HasGoodNumbers (F e.number)
  pub shown : AreShown (files_number root F) next
  pub above : (k : ℕ) → IsSome (F k) → k < next
  pub last : (k : ℕ) × (next ≡ k + 1) × (IsSome (F k) ⊎ ((p : Path) × (files_number root F p ≡ Some k)))

-- what is found in files that are opened: the next number, which is that of the state, or if nothing is stored the first
abbrev pub Finds : Opening → Id → Stored → ℕ → Type 0
Finds opening.Closed root F next = (AreNone F × (next ≡ 2)) ⊎ HoldsState F (record { root = root; next = next })
Finds opening.Rescan root F next = IsRescanned root F next

-- ---- when they may be opened

-- What files keep if that number is given next: no name dangles, they show the tree, and their numbers back the numbers N. None is
-- saved for a directory whose number is yet to be given, and what they list of a directory is what it has.
pub record FilesKeep (R : Repository) (tree : Tree) (N : Numbers) (root : Id) (F : Stored) (next : ℕ) : Type 0 where
  pub sound : AreSound F
  pub shown : files_show R root F ≡ tree
  pub backed : Backs N (files_number root F) next
  pub blank : (k : ℕ) (id : Id) → next ≤ k → saved_at F k id ≡ None
  pub listed : (e : StoredEntry) (es : List StoredEntry) → IsListed root F e → listing_at F e.number e.origin ≡ Some es
      → entries_with R (own_files F) (source_of e.number e.origin) ≡ Some (items_of es)

-- what is known of the files if the outside is honest: they keep that, with the next number that is found in them
pub record MayOpen (how : Opening) (R : Repository) (tree : Tree) (N : Numbers) (root : Id) (F : Stored) : Type 0 where
  pub kept : (next : ℕ) → Finds how root F next → FilesKeep R tree N root F next

-- .. if they were closed
abbrev pub CanOpen : Repository → Tree → Numbers → Id → Stored → Type 0
CanOpen R tree N root F = MayOpen opening.Closed R tree N root F

-- a table shows the numbers that files do above that commit's tree
abbrev pub ShowsNumbersOf : {W F : Type 0} → Files F W → Id → Stored → Table F → Type 0
ShowsNumbersOf f root F t = (p : Path) → shows_numbers f t p ≡ files_number root F p

-- ---- what is opened

-- nothing was asked of the checkout of that commit yet, which has that cache
pub record IsFresh {F : Type 0} (cache : Cache) (root : Id) (t : Checkout F) : Type 0 where
  pub clock : t.inodes.clock ≡ 0
  pub changes : t.inodes.changes ≡ 0
  pub cached : t.cache ≡ cache
  pub commit : t.root ≡ root

pub record Starts (how : Opening) (root : Id) (F : Stored) (start : Start) : Type 0 where
  pub origin : start.origin ≡ root_from root (root_file F)
  pub next : Finds how root F start.next

-- ---- why an overlay isn't opened

abbrev pub open_fault_number : OpenFault → ℕ
open_fault_number opens.NotClean = 1
open_fault_number (opens.OtherRoot stored) = 2
open_fault_number (opens.Damaged k refusal) = 3
open_fault_number opens.Device = 4
open_fault_number opens.Memory = 5
open_fault_number (opens.Dangling k) = 6
open_fault_number (opens.Twice k) = 7

abbrev pub of_files : FilesFault → OpenFault
of_files files.Device = opens.Device
of_files files.Memory = opens.Memory

abbrev pub of_rescan : RescanFault → OpenFault
of_rescan (rescan.Dangling k) = opens.Dangling k
of_rescan (rescan.Twice k) = opens.Twice k
of_rescan (rescan.Damaged k refusal) = opens.Damaged k refusal
of_rescan rescan.Device = opens.Device
of_rescan rescan.Memory = opens.Memory

-- the directory of that number lists the entry
abbrev pub IsListedIn : Id → Stored → ℕ → StoredEntry → Type 0
IsListedIn root F d e = (p : Path) × (files_number root F p ≡ Some d) × (listed_at F (root_entry root F) (p ++ e.name ∷ []) ≡ Some e)

-- two entries have the number, or one in two directories
abbrev pub IsTwice : Id → Stored → ℕ → Type 0
IsTwice root F k = (c : ℕ) × (d : ℕ) × (e : StoredEntry) × (f : StoredEntry) × IsListedIn root F c e × IsListedIn root F d f
    × (e.number ≡ k) × (f.number ≡ k) × (¬ ((c ≡ d) × (e ≡ f)))

-- The file of an entry that files list is refused, as its own of its kind or as its numbers; or no number is left above that of a
-- file, which is reported as a bad body of the root's.
abbrev pub IsDamaged : Id → Stored → ℕ → Refusal → Type 0
IsDamaged root F k refusal =
    ((e : StoredEntry) × IsListed root F e × (e.number ≡ k) × (e.origin ≡ origin.Own) × ExplainsKind F k e.kind (get.Damaged refusal))
    ⊎ ((e : StoredEntry) × (tree : Id) × IsListed root F e × (e.number ≡ k) × (e.kind ≡ kind.Dir) × (e.origin ≡ origin.Object tree)
    × ExplainsNumbers tree (F k) (get.Damaged refusal))
    ⊎ HasNoNext F k refusal

-- It isn't opened so, for that fault: a rescan reports the first thing that was met from file 1 down. F are the files, and the counts are
-- those of the device's failures before and then.
abbrev pub IsRefusal : Opening → Type 0 → Id → Stored → ℕ → ℕ → OpenFault → Type 0
IsRefusal how honest root F old new opens.Device = Rose old new
IsRefusal how honest root F old new opens.Memory = Unit {0}
IsRefusal opening.Closed honest root F old new opens.NotClean = honest → (F 0 ≡ None) × ((k : ℕ) × IsSome (F k))
IsRefusal opening.Closed honest root F old new (opens.OtherRoot stored) = (stored ≢ root) × (honest → (s : State) × (HoldsState F s × (s.root ≡ stored)))
IsRefusal opening.Closed honest root F old new (opens.Damaged k refusal) = (k ≡ 0) × (honest → Explains identifier.File state_in (F 0) (get.Damaged refusal))
IsRefusal opening.Rescan honest root F old new (opens.Damaged k refusal) = honest → IsDamaged root F k refusal
IsRefusal opening.Rescan honest root F old new (opens.Dangling k) =
    honest → (e : StoredEntry) × IsListed root F e × (e.number ≡ k) × (e.origin ≡ origin.Own) × (F k ≡ None)
IsRefusal opening.Rescan honest root F old new (opens.Twice k) = honest → IsTwice root F k
IsRefusal how honest root F old new fault = ⊥
