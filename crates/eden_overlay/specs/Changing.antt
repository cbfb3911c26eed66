-- A directory's file of which entries change.
use Rattle.std.specs.Prelude.{◌≡◌, ℕ, List, Some, None, IsSome}
use Rattle.eden_model.specs.Trees.{Name}
use Rattle.eden_overlay_format.specs.declared.stored_entry.StoredEntry.{StoredEntry}
use Rattle.eden_overlay_format.specs.Changing.{entries_with}
use Rattle.eden_overlay_format.specs.Directory.{AreStorable}
use Rattle.eden_overlay.specs.Files.{Stored}
use Rattle.eden_overlay.specs.Held.{HoldsEntries, entries_at, with_entries}
use Rattle.eden_overlay.specs.Soundness.{AreSound}

-- file k is a directory's
abbrev pub HasEntries : Stored → ℕ → Type 0
HasEntries F k = IsSome (entries_at F k)

-- entries of which the one of a name gets another name, in place of any that has it: as this one
abbrev pub entry_renamed : Name → StoredEntry → List StoredEntry → List StoredEntry
entry_renamed n e es = entries_with n None (entries_with e.name (Some e) es)

-- of the directory that has these entries, once they have changed so, no name dangles
pub record ChangesSoundly (F : Stored) (k : ℕ) (change : List StoredEntry → List StoredEntry) (es : List StoredEntry) : Type 0 where
  pub storable : AreStorable (change es)
  pub sound : AreSound (with_entries F k (change es))

-- the entries of the directory in file k may change so
abbrev pub MayChange : Stored → ℕ → (List StoredEntry → List StoredEntry) → Type 0
MayChange F k change = (es : List StoredEntry) → HoldsEntries F k es → ChangesSoundly F k change es

-- G is F but for that
abbrev pub IsChanged : Stored → ℕ → (List StoredEntry → List StoredEntry) → Stored → Type 0
IsChanged F k change G = (es : List StoredEntry) → HoldsEntries F k es → G ≡ with_entries F k (change es)
