-- How far a pass over the directories that count has come.
use Rattle.std.specs.Prelude.{◌≡◌, ◌≢◌, ◌⊎◌, ◌∷◌, ℕ, Bool, true, List, [], map, reverse, All, Contains, Option, unwrap_or}
use Rattle.eden_model.specs.declared.id.Id.{Id}
use Rattle.eden_model.specs.declared.kind.Kind.{Kind}
use Rattle.eden_model.specs.declared.kind.Kind.TheVariants as kind
use Rattle.eden_model.specs.declared.kind.Origin.{Origin}
use Rattle.eden_model.specs.declared.kind.Origin.TheVariants as origin
use Rattle.eden_model.specs.Numbers.{IsNumber}
use Rattle.eden_overlay_format.specs.declared.stored_entry.StoredEntry.{StoredEntry}
use Rattle.eden_overlay.specs.declared.fault.GetFault.{GetFault}
use Rattle.eden_overlay.specs.declared.fault.GetFault.TheVariants as get
use Rattle.eden_overlay.specs.declared.rescan.Pending.{Pending}
use Rattle.eden_overlay.specs.declared.rescan.RescanFault.{RescanFault}
use Rattle.eden_overlay.specs.declared.rescan.RescanFault.TheVariants as fault
use Rattle.eden_overlay.specs.Counting.{root_from, listing_at, ListsEntry, Counts, Counted, HasGoodFile}
use Rattle.eden_overlay.specs.Files.{Stored}
use Rattle.eden_overlay.specs.Getting.{ExplainsNumbers}
use Rattle.eden_overlay.specs.Held.{root_file}
use Rattle.eden_overlay.specs.Rescanning.{ExplainsKind, IsRescanFault}

-- what a get's fault says of the pass, at the file of that number
abbrev pub of_getting : ℕ → GetFault → RescanFault
of_getting k get.Absent = fault.Dangling k
of_getting k (get.Damaged refusal) = fault.Damaged k refusal
of_getting k get.Device = fault.Device
of_getting k get.Memory = fault.Memory

-- ---- entries that are to be visited

abbrev pub pending_of : StoredEntry → Pending
pending_of e = record { number = e.number; kind = e.kind; origin = e.origin }

-- those of a directory, the last first
abbrev pub pending_in : List StoredEntry → List Pending
pending_in entries = map pending_of (reverse entries)

abbrev pub AreInRange : List Pending → Type 0
AreInRange pending = All (λ p. IsNumber p.number) pending

-- what is to be visited below an inode of that number, kind and origin, whose file is good
pub record IsBelow (F : Stored) (k : ℕ) (t : Kind) (o : Origin) (below : List Pending) : Type 0 where
  pub listed : t ≡ kind.Dir → below ≡ pending_in (unwrap_or (listing_at F k o) [])
  pub closed : t ≢ kind.Dir → below ≡ []
  pub good : HasGoodFile F k t o

-- .. and why there is nothing: its own file isn't of its kind, or has bad numbers
abbrev pub ExplainsBelow : Stored → ℕ → Kind → Origin → GetFault → Type 0
ExplainsBelow F k t origin.Own f = ExplainsKind F k t f
ExplainsBelow F k t (origin.Object tree) f = (t ≡ kind.Dir) × ((f ≢ get.Absent) × ExplainsNumbers tree (F k) f)
ExplainsBelow F k t origin.Empty f = ⊥

-- the root, as one that is to be visited
abbrev pub root_pending : Id → Option (List ℕ) → Pending
root_pending root file = record { number = 1; kind = kind.Dir; origin = root_from root file }

-- ---- the pass

-- an entry, and the directory that lists it
pub record Place : Type 0 where
  pub directory : ℕ
  pub from : Origin
  pub entry : StoredEntry

-- no place comes twice
abbrev pub AreApart : List Place → Type 0
AreApart [] = Unit {0}
AreApart (p ∷ ps) = (¬ Contains ps p) × AreApart ps

abbrev pub IsListed : Stored → Place → Type 0
IsListed F p = ListsEntry F p.directory p.from p.entry

-- The pass has visited some entries of directories that count, whose numbers are those that were met, each once, and whose files are
-- good. Each entry of the root, and of each directory that it visited, it has visited or has left to visit.
pub record Pass (F : Stored) (root : Id) (visited left : List Place) (was_met : ℕ → Bool) : Type 0 where
  pub live : (p : Place) → Contains visited p ⊎ Contains left p → Counts F root p.directory p.from × IsListed F p
  pub within : (p : Place) → Contains visited p ⊎ Contains left p → (p.directory ≡ 1) ⊎ (was_met p.directory ≡ true)
  pub one : (p q : Place) → Contains visited p ⊎ Contains left p → Contains visited q ⊎ Contains left q → p.directory ≡ q.directory → p.from ≡ q.from
  pub met : (p : Place) → Contains visited p → was_met p.entry.number ≡ true
  pub only : (k : ℕ) → was_met k ≡ true → (p : Place) × (Contains visited p × (p.entry.number ≡ k))
  pub once : (p q : Place) → Contains visited p → Contains visited q → p.entry.number ≡ q.entry.number → p ≡ q
  pub good : (p : Place) → Contains visited p → HasGoodFile F p.entry.number p.entry.kind p.entry.origin
  pub top : (p : Place) → p.directory ≡ 1 → p.from ≡ root_from root (root_file F) → IsListed F p → Contains visited p ⊎ Contains left p
  pub inside : (q p : Place) → Contains visited q → q.entry.kind ≡ kind.Dir → p.directory ≡ q.entry.number → p.from ≡ q.entry.origin → IsListed F p
      → Contains visited p ⊎ Contains left p
  pub fresh : (p : Place) → Contains left p → ¬ Contains visited p
  pub apart : AreApart left

-- .. and what is left to visit is pending, the next on top
pub record Walked (F : Stored) (root : Id) (pending : List Pending) (was_met : ℕ → Bool) : Type 0 where
  pub visited : List Place
  pub left : List Place
  pub stack : pending ≡ pending_in (map (λ (p : Place). p.entry) left)
  pub pass : Pass F root visited left was_met

-- from there the pass went on to here, over whatever commit's tree
abbrev pub GoesOn : Stored → List Pending → (ℕ → Bool) → List Pending → (ℕ → Bool) → Type 0
GoesOn F pending before rest after = (root : Id) → Walked F root pending before → Walked F root rest after

-- .. or it ended in that fault
abbrev pub EndsIn : Type 0 → Stored → List Pending → (ℕ → Bool) → ℕ → ℕ → RescanFault → Type 0
EndsIn honest F pending before old new f = (root : Id) → (honest → Walked F root pending before) → IsRescanFault honest F root old new f

-- these are the numbers of the entries of directories that count
pub record AreNamed (F : Stored) (root : Id) (was_met : ℕ → Bool) : Type 0 where
  pub all : (n : Counted F root) → was_met n.entry.number ≡ true
  pub only : (k : ℕ) → was_met k ≡ true → (n : Counted F root) × (n.entry.number ≡ k)
