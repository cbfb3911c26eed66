-- The numbers of entries, as they are looked for.
use Rattle.std.specs.Prelude.{◌≡◌, ◌⊎◌, ℕ, true, Contains}
use Rattle.std.specs.BTreeSet.{contains}
use Rattle.std.specs.Ordering.{nat_cmp}
use Rattle.eden_overlay_format.specs.declared.stored_entry.StoredEntry.{StoredEntry}
use Rattle.eden_overlay.specs.Files.{Stored}
use Rattle.eden_overlay.specs.Soundness.{LeadsOn, Names, Reached}
use Rattle.eden_dematerialise.specs.Dematerialising.{HasEntry, IsElsewhere, IsOwn}
use Rattle.eden_dematerialise.specs.declared.unread.Numbers.{Numbers}

-- the number was met, of an own entry, or of a file or a link that comes from elsewhere
abbrev pub WasOwn : Numbers → ℕ → Type 0
WasOwn met k = contains nat_cmp met.own k ≡ true

abbrev pub WasElsewhere : Numbers → ℕ → Type 0
WasElsewhere met k = Contains met.elsewhere.items k

-- of a directory that is k, or is reached from it, the number of each entry that is so was met
abbrev pub AreMetFrom : Stored → (StoredEntry → Type 0) → (ℕ → Type 0) → ℕ → Type 0
AreMetFrom F Is was k = (d : ℕ) (e : StoredEntry) → Reached F k d → Names F d e → Is e → was e.number

abbrev pub AreAllMetFrom : Stored → Numbers → ℕ → Type 0
AreAllMetFrom F met k = AreMetFrom F IsOwn (WasOwn met) k × AreMetFrom F IsElsewhere (WasElsewhere met) k

-- .. and of one of its entries, and what is reached through that
pub record AreMetOf (F : Stored) (met : Numbers) (e : StoredEntry) : Type 0 where
  pub own : IsOwn e → WasOwn met e.number
  pub elsewhere : IsElsewhere e → WasElsewhere met e.number
  pub below : LeadsOn e → AreAllMetFrom F met e.number

-- each number that was met since is that of an entry of a live directory
pub record AreEntries (F : Stored) (before after : Numbers) : Type 0 where
  pub own : (k : ℕ) → WasOwn after k → WasOwn before k ⊎ HasEntry F IsOwn k
  pub elsewhere : (k : ℕ) → WasElsewhere after k → WasElsewhere before k ⊎ HasEntry F IsElsewhere k

-- what was met stays so
pub record Stay (before after : Numbers) : Type 0 where
  pub own : (k : ℕ) → WasOwn before k → WasOwn after k
  pub elsewhere : (k : ℕ) → WasElsewhere before k → WasElsewhere after k

-- the number of that entry was met
pub record Adds (e : StoredEntry) (before after : Numbers) : Type 0 where
  pub own : (k : ℕ) → WasOwn after k → WasOwn before k ⊎ (IsOwn e × (e.number ≡ k))
  pub elsewhere : (k : ℕ) → WasElsewhere after k → WasElsewhere before k ⊎ (IsElsewhere e × (e.number ≡ k))
  pub stay : Stay before after
  pub own_met : IsOwn e → WasOwn after e.number
  pub elsewhere_met : IsElsewhere e → WasElsewhere after e.number
