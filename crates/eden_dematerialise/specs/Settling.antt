-- How far one directory's entries have come.
use Rattle.std.specs.Prelude.{◌≡◌, ℕ, Bool, false, List, Some, Contains}
use Rattle.eden_model.specs.declared.id.Id.{Id}
use Rattle.eden_model.specs.declared.kind.Mode.TheVariants as mode
use Rattle.eden_model.specs.declared.tree_entry.TreeEntry.{TreeEntry}
use Rattle.eden_model.specs.Repository.{Repository}
use Rattle.eden_overlay_format.specs.declared.stored_entry.StoredEntry.{StoredEntry}
use Rattle.eden_overlay.specs.Files.{Stored}
use Rattle.eden_overlay.specs.Held.{HoldsEntries}
use Rattle.eden_overlay.specs.Soundness.{LeadsOn}
use Rattle.eden_snapshot.specs.Commits.{place_named}
use Rattle.eden_dematerialise.specs.Dematerialising.{Dematerialises, IsAmong, Leads, Stand}

-- of none of these entries the commit has the content
abbrev pub AreSettled : Repository → Stored → List TreeEntry → List StoredEntry → Type 0
AreSettled R F commit entries = (e : StoredEntry) → Contains entries e → ¬ IsAmong R F commit e

-- each own directory among the entries, of which the commit has a tree, is to be looked into, beside that
abbrev pub AreLed : List TreeEntry → List StoredEntry → List (ℕ × Id) → Type 0
AreLed commit entries below = (e : StoredEntry) → Contains entries e → LeadsOn e → (tree : Id) → place_named e.name commit ≡ Some (mode.Dir, tree)
    → Contains below (e.number, tree)

-- it is such a directory, with its tree
abbrev pub IsOf : List TreeEntry → StoredEntry → ℕ × Id → Type 0
IsOf commit e x = LeadsOn e × (e.number ≡ x.0) × (place_named e.name commit ≡ Some (mode.Dir, x.1))

pub record IsFrom (commit : List TreeEntry) (entries : List StoredEntry) (x : ℕ × Id) : Type 0 where
  pub entry : StoredEntry
  pub there : Contains entries entry
  pub is : IsOf commit entry x

-- nothing else is to be looked into
abbrev pub AreFrom : List TreeEntry → List StoredEntry → List (ℕ × Id) → Type 0
AreFrom commit entries below = (x : ℕ × Id) → Contains below x → IsFrom commit entries x

-- the directory k leads to each that is to be looked into, where the commit has the tree t
abbrev pub LeadsTo : Repository → Stored → ℕ → Id → List (ℕ × Id) → Type 0
LeadsTo R F k t below = (x : ℕ × Id) → Contains below x → Leads R F k t x.0 x.1

-- If the directory had entries that stand so now, the files were dematerialised from it on.
abbrev pub DematerialisesThen : Repository → Stored → ℕ → List StoredEntry → Stored → Type 0
DematerialisesThen R F d then G = (tree : Id) (commit : List TreeEntry) (entries : List StoredEntry) → R.tree tree ≡ Some commit → HoldsEntries F d entries
    → Stand R F commit entries then → Dematerialises R d tree F G

-- If the directory had entries that stand so now, or are as they were where nothing has changed, it holds them then.
abbrev pub HoldsThen : Repository → Stored → List TreeEntry → ℕ → List StoredEntry → Bool → Stored → Type 0
HoldsThen R F commit d then has_changed G = (entries : List StoredEntry) → HoldsEntries F d entries → Stand R F commit entries then
    → (has_changed ≡ false → then ≡ entries) → HoldsEntries G d then
