-- What a caller needs to know of soundness, to show that an overlay stays sound.
use Rattle.std.specs.Prelude.{◌≡◌, ◌≢◌, ◌≤◌, ◌⊎◌, ◌↔◌, ℕ, true, List, [], Option, Some, None, length, Contains}
use Rattle.eden_model.specs.declared.id.Id.{Id}
use Rattle.eden_model.specs.declared.kind.Origin.TheVariants as origin
use Rattle.eden_model.specs.Limits.{number_least}
use Rattle.eden_overlay_format.specs.declared.stored_entry.StoredEntry.{StoredEntry}
use Rattle.eden_overlay_format.specs.Content.{content_most}
use Rattle.eden_overlay_format.specs.Directory.{AreStorable}
use Rattle.eden_overlay_format.specs.Numbers.{none_is_own}
use Rattle.eden_overlay.specs.Files.{Stored, with_file}
use Rattle.eden_overlay.specs.Held.{HoldsContent, HoldsEntries, root_file, saved_at, with_content, with_entries, with_numbers}
use Rattle.eden_overlay.specs.Soundness.{Names, LeadsOn, Reached, IsLive, HasOwn, AreSound}

-- what is stored is held
abbrev pub ContentsHeld : Type 0
ContentsHeld = (F : Stored) (k : ℕ) (content : List ℕ) → length content ≤ content_most → HoldsContent (with_content F k content) k content

abbrev pub EntriesHeld : Type 0
EntriesHeld = (F : Stored) (k : ℕ) (entries : List StoredEntry) → AreStorable entries → HoldsEntries (with_entries F k entries) k entries

-- numbers that are saved are held, for that tree object alone
abbrev pub NumbersHeld : Type 0
NumbersHeld = (F : Stored) (k : ℕ) (tree : Id) (entries : List StoredEntry) → length tree.bytes ≡ 20 → AreStorable entries → none_is_own entries ≡ true
    → saved_at (with_numbers F k tree entries) k tree ≡ Some entries

abbrev pub OtherTreeHasNone : Type 0
OtherTreeHasNone = (F : Stored) (k : ℕ) (tree other : Id) (entries : List StoredEntry) → length tree.bytes ≡ 20 → AreStorable entries
    → none_is_own entries ≡ true → other ≢ tree → saved_at (with_numbers F k tree entries) k other ≡ None

-- a stored directory has none
abbrev pub EntriesHaveNone : Type 0
EntriesHaveNone = (F : Stored) (k : ℕ) (tree : Id) (entries : List StoredEntry) → saved_at (with_entries F k entries) k tree ≡ None

-- where the root's numbers are saved, it has no file of its own
abbrev pub RootHasNumbers : Type 0
RootHasNumbers = (F : Stored) (tree : Id) (entries : List StoredEntry) → root_file (with_numbers F 1 tree entries) ≡ None

-- the number of an entry is never the root's, nor the state's
abbrev pub NumbersFromTwo : Type 0
NumbersFromTwo = (F : Stored) (d : ℕ) (e : StoredEntry) → Names F d e → number_least ≤ e.number

-- without the root's file nothing is named: so no files at all are sound
abbrev pub RootlessSound : Type 0
RootlessSound = (F : Stored) → root_file F ≡ None → AreSound F

-- file k isn't the root's, and no live directory names it as an entry's own
pub record IsStray (F : Stored) (k : ℕ) : Type 0 where
  pub not_root : k ≢ 1
  pub not_own : (d : ℕ) (e : StoredEntry) → IsLive F d → Names F d e → e.origin ≡ origin.Own → e.number ≢ k

-- a stray may be stored, changed or taken out
abbrev pub StraysStay : Type 0
StraysStay = (F : Stored) (k : ℕ) (w : Option (List ℕ)) → IsStray F k → AreSound F → AreSound (with_file F k w)

-- and the same directories are live then
abbrev pub LiveStay : Type 0
LiveStay = (F : Stored) (k : ℕ) (w : Option (List ℕ)) → IsStray F k → (d : ℕ) → IsLive (with_file F k w) d ↔ IsLive F d

-- whatever becomes of file 0, the state's
abbrev pub StateStays : Type 0
StateStays = (F : Stored) (w : Option (List ℕ)) → AreSound F → AreSound (with_file F 0 w)

-- a stored content may be replaced by another
abbrev pub ContentsStay : Type 0
ContentsStay = (F : Stored) (k : ℕ) (old new : List ℕ) → HoldsContent F k old → length new ≤ content_most
    → AreSound F → AreSound (with_content F k new)

-- ---- entries left out

-- the directory d had the old entries, and the new ones are some of them
pub record Drops (F : Stored) (d : ℕ) (old new : List StoredEntry) : Type 0 where
  pub held : HoldsEntries F d old
  pub are : AreStorable new
  pub fewer : (e : StoredEntry) → Contains new e → Contains old e

-- a directory may be stored with entries left out
abbrev pub DroppedStay : Type 0
DroppedStay = (F : Stored) (d : ℕ) (old new : List StoredEntry) → Drops F d old new → AreSound F → AreSound (with_entries F d new)

-- no live directory names the number
abbrev pub IsUnnamed : Stored → ℕ → Type 0
IsUnnamed F k = (d : ℕ) (e : StoredEntry) → IsLive F d → Names F d e → e.number ≢ k

-- and then nothing names what was left out, so that its file may be taken out, or its number named elsewhere
abbrev pub DroppedUnnamed : Type 0
DroppedUnnamed = (F : Stored) (d : ℕ) (old new : List StoredEntry) (left : StoredEntry) → Drops F d old new
    → IsLive F d → Contains old left → ¬ Contains new left
    → AreSound F → IsUnnamed (with_entries F d new) left.number

-- ---- entries put into a directory

-- what a live directory may name anew: an entry whose file is stored where it is its own, whose number no other
-- live directory names, and which has nothing below it
pub record IsFresh (F : Stored) (d : ℕ) (e : StoredEntry) : Type 0 where
  pub own : HasOwn F e
  pub free : (c : ℕ) (f : StoredEntry) → IsLive F c → Names F c f → f.number ≡ e.number → c ≡ d
  pub empty : LeadsOn e → HoldsEntries F e.number []

-- a live directory may be stored with fresh entries beside those that it has or in their place, each number once
abbrev pub AddedStay : Type 0
AddedStay = (F : Stored) (d : ℕ) (new : List StoredEntry) → IsLive F d → AreStorable new
    → ((e f : StoredEntry) → Contains new e → Contains new f → e.number ≡ f.number → e ≡ f)
    → ((e : StoredEntry) → Contains new e → Names F d e ⊎ IsFresh F d e)
    → AreSound F → AreSound (with_entries F d new)

-- a directory that is k, or is reached from it, names the number
pub record NamedFrom (F : Stored) (k number : ℕ) : Type 0 where
  pub directory : ℕ
  pub entry : StoredEntry
  pub reached : Reached F k directory
  pub named : Names F directory entry
  pub is : entry.number ≡ number

-- the number is the entry's, or is named below it
abbrev pub Brings : Stored → StoredEntry → ℕ → Type 0
Brings F e number = (e.number ≡ number) ⊎ (LeadsOn e × NamedFrom F e.number number)

-- what a live directory may name anew, with all that is below it, when it is stored with those entries
pub record MayEnter (F : Stored) (d : ℕ) (new : List StoredEntry) (e : StoredEntry) : Type 0 where
  -- what is named as its own is stored: the entry's file, and each below it
  pub own : HasOwn F e
  pub owned : LeadsOn e → (c : ℕ) (f : StoredEntry) → Reached F e.number c → Names F c f → HasOwn F f
  -- below it no number is named twice, and its own isn't named
  pub once : LeadsOn e → (b c : ℕ) (f g : StoredEntry) → Reached F e.number b → Reached F e.number c → Names F b f → Names F c g
      → f.number ≡ g.number → (b ≡ c) × (f ≡ g)
  pub not_below : LeadsOn e → ¬ NamedFrom F e.number e.number
  -- no other live directory, and no other entry of the new ones, has a number that it brings
  pub free : (number c : ℕ) (f : StoredEntry) → Brings F e number → IsLive F c → Names F c f → f.number ≡ number → c ≡ d
  pub apart : (number : ℕ) (f : StoredEntry) → Contains new f → Brings F e number → Brings F f number → e ≡ f

-- a live directory may be stored with any entries that it has or that may enter
abbrev pub EnteredStay : Type 0
EnteredStay = (F : Stored) (d : ℕ) (new : List StoredEntry) → IsLive F d → AreStorable new
    → ((e : StoredEntry) → Contains new e → Names F d e ⊎ MayEnter F d new e)
    → AreSound F → AreSound (with_entries F d new)

-- ---- entries renamed and moved

-- one inode, whatever its name
pub record IsSameInode (e f : StoredEntry) : Type 0 where
  pub kind : e.kind ≡ f.kind
  pub origin : e.origin ≡ f.origin
  pub number : e.number ≡ f.number

-- the directory d had the old entries, and the new ones are some of their inodes, each once, under any names
pub record Renames (F : Stored) (d : ℕ) (old new : List StoredEntry) : Type 0 where
  pub held : HoldsEntries F d old
  pub are : AreStorable new
  pub distinct : (e f : StoredEntry) → Contains new e → Contains new f → e.number ≡ f.number → e ≡ f
  pub each : (e : StoredEntry) → Contains new e → (f : StoredEntry) × (Contains old f × IsSameInode e f)

-- a directory may be stored with entries left out and others under new names
abbrev pub RenamedStay : Type 0
RenamedStay = (F : Stored) (d : ℕ) (old new : List StoredEntry) → Renames F d old new → AreSound F → AreSound (with_entries F d new)

-- an entry that the directory `from` leaves out, when it is stored, is that inode which the directory `to`, which is
-- live then too, has beside entries of its own, when it is stored next
pub record Moves (F : Stored) (from to : ℕ) (old kept new : List StoredEntry) (left moved : StoredEntry) : Type 0 where
  pub drops : Drops F from old kept
  pub live : IsLive F from
  pub there : Contains old left
  pub gone : ¬ Contains kept left
  pub same : IsSameInode moved left
  pub live_still : IsLive (with_entries F from kept) to
  pub are : AreStorable new
  pub each : (e : StoredEntry) → Contains new e → Names (with_entries F from kept) to e ⊎ (e ≡ moved)

-- what was left out of one directory may stand in another, with all that is below it
abbrev pub MovedStay : Type 0
MovedStay = (F : Stored) (from to : ℕ) (old kept new : List StoredEntry) (left moved : StoredEntry) → Moves F from to old kept new left moved
    → AreSound F → AreSound (with_entries (with_entries F from kept) to new)
