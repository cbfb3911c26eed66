-- A listing that changes: stored first, and then changed in memory.
use Rattle.std.specs.Prelude.{◌≡◌, ◌≢◌, ◌<◌, ◌≤◌, ◌+◌, ◌^◌, ◌⊎◌, ℕ, true, false, List, [], length, Option, Some, None, IsSome, IfSome, Contains}
use Rattle.eden_model.specs.declared.kind.Kind.TheVariants as kind
use Rattle.eden_model.specs.declared.kind.Origin.TheVariants as origin
use Rattle.eden_model.specs.Trees.{Name, Path}
use Rattle.eden_overlay_format.specs.declared.stored_entry.StoredEntry.{StoredEntry}
use Rattle.eden_overlay_format.specs.Directory.{AreStorable}
use Rattle.eden_overlay.specs.Files.{Stored, with_file}
use Rattle.eden_overlay.specs.Held.{HoldsEntries, with_entries}
use Rattle.eden_overlay.specs.Soundness.{Names, LeadsOn, Reached, HoldsKind, AreSound}
use Rattle.eden_overlay.specs.Laws.{Brings, IsStray, IsUnnamed}
use Rattle.eden_tree.specs.Directory.{Row, Directory, child_of, with_child}
use Rattle.eden_tree.specs.Rows.{find_row, put_row, drop_row, set_row}
use Rattle.eden_tree.specs.Paths.{row_at, edit_row}
use Rattle.eden_coupling.specs.Listings.{stored_entry, listing_of, full_listing}
use Rattle.eden_coupling.specs.Ties.{IsAway, SameFile, Ties, Tied}

-- what an entry that comes in brings: numbers that were given and aren't loaded, and own files stored alike
pub record IsCarried (F full : Stored) (x : Row) (next : ℕ) (e : StoredEntry) : Type 0 where
  pub below : (k : ℕ) → Brings full e k → k < next
  pub away : (k : ℕ) → Brings full e k → IsAway x k
  pub own : e.origin ≡ origin.Own → SameFile F full e.number
  pub owned : LeadsOn e → (c : ℕ) (f : StoredEntry) → Reached full e.number c → Names full c f → f.origin ≡ origin.Own → SameFile F full f.number

-- the directory d may become the directory e: what comes in is carried, what goes isn't loaded
pub record MayBecome (F full : Stored) (x : Row) (next : ℕ) (d e : Directory) : Type 0 where
  pub saved : e.unsaved ≡ false
  pub each : (n : Name) (w : Row) → find_row n e.rows ≡ Some w
      → (find_row n d.rows ≡ Some w) ⊎ ((child_of w ≡ None) × IsCarried F full x next (stored_entry (n, w)))
  pub loaded : (n : Name) (w : Row) (c : Directory) → find_row n d.rows ≡ Some w → child_of w ≡ Some c → find_row n e.rows ≡ Some w

-- the table with the directory at a path become another
abbrev pub with_listing : Path → Directory → Row → Row
with_listing p e x = edit_row p (with_child (Some e)) x

-- a directory of its own may be stored as it will be, and then become so in memory
abbrev pub ChangesTied : Type 0
ChangesTied = (F full : Stored) (x : Row) (next : ℕ) → Ties F full x next
    → (p : Path) (y : Row) (d e : Directory) → row_at p x ≡ Some y → child_of y ≡ Some d → y.origin ≡ origin.Own
    → MayBecome F full x next d e → AreStorable (listing_of e)
    → AreSound (with_entries full y.number (full_listing e))
    → Ties (with_entries F y.number (listing_of e)) (with_entries full y.number (full_listing e)) (with_listing p e x) next

-- one that isn't its own may become another in memory alone: nothing tells what is stored of it
abbrev pub UnstoredTied : Type 0
UnstoredTied = (F full : Stored) (x : Row) (next : ℕ) → Ties F full x next
    → (p : Path) (y : Row) (d e : Directory) → row_at p x ≡ Some y → child_of y ≡ Some d → y.origin ≢ origin.Own
    → MayBecome F full x next d e → AreStorable (listing_of e)
    → AreSound (with_entries full y.number (full_listing e))
    → Ties F (with_entries full y.number (full_listing e)) (with_listing p e x) next

-- a directory of its own may be stored with entries left out, once it is marked unsaved
abbrev pub LeftOutTied : Type 0
LeftOutTied = (F full : Stored) (x : Row) (next : ℕ) → Ties F full x next
    → (p : Path) (y : Row) (d : Directory) (entries : List StoredEntry) → row_at p x ≡ Some y → child_of y ≡ Some d → y.origin ≡ origin.Own
    → AreStorable entries → ((e : StoredEntry) → Contains entries e → Contains (listing_of d) e)
    → Ties (with_entries F y.number entries) full (with_listing p (record d { unsaved = true }) x) next

-- ---- one entry of it

-- the rows with this entry under that name, in place of one that is there
abbrev pub placed : Option Row → Name → Row → List (Name × Row) → List (Name × Row)
placed None n x rows = put_row n x rows
placed (Some was) n x rows = set_row n x rows

-- the rows with this under that name: an entry, or nothing
abbrev pub rows_with : Name → Option Row → List (Name × Row) → List (Name × Row)
rows_with n None rows = drop_row n rows
rows_with n (Some x) rows = placed (find_row n rows) n x rows

-- the directory with this under that name, and saved
abbrev pub changed : Directory → Name → Option Row → Directory
changed d n o = record d { rows = rows_with n o d.rows; unsaved = false }

-- the directory has that name, or room for it
abbrev pub HasRoom : Directory → Name → Type 0
HasRoom d n = IsSome (find_row n d.rows) ⊎ (length d.rows + 1 < 2 ^ 32)

-- what goes isn't loaded
abbrev pub MayGo : Directory → Name → Type 0
MayGo d n = IfSome (find_row n d.rows) (λ w. child_of w ≡ None)

-- what comes in isn't loaded, and is carried
abbrev pub MayCome : Stored → Stored → Row → ℕ → Name → Option Row → Type 0
MayCome F full x next n o = IfSome o (λ z. (child_of z ≡ None) × IsCarried F full x next (stored_entry (n, z)))

-- this under a name of a directory of its own may be stored, and then stand there in memory
abbrev pub EntryTied : Type 0
EntryTied = (F full : Stored) (x : Row) (next : ℕ) → Ties F full x next
    → (p : Path) (y : Row) (d : Directory) (n : Name) (o : Option Row) → row_at p x ≡ Some y → child_of y ≡ Some d → y.origin ≡ origin.Own
    → MayGo d n → MayCome F full x next n o → AreStorable (listing_of (changed d n o))
    → AreSound (with_entries full y.number (full_listing (changed d n o)))
    → Ties (with_entries F y.number (listing_of (changed d n o))) (with_entries full y.number (full_listing (changed d n o)))
    (with_listing p (changed d n o) x) next

-- an entry may be left out, stored first (unlink, rmdir)
abbrev pub DropTied : Type 0
DropTied = (F full : Stored) (x : Row) (next : ℕ) → Ties F full x next
    → (p : Path) (y : Row) (d : Directory) (n : Name) → row_at p x ≡ Some y → child_of y ≡ Some d → y.origin ≡ origin.Own
    → MayGo d n → AreStorable (listing_of (changed d n None))
    → Ties (with_entries F y.number (listing_of (changed d n None))) (with_entries full y.number (full_listing (changed d n None)))
    (with_listing p (changed d n None) x) next

-- An entry may move from one directory of its own to another, which may be above or below it: e is the other as it is once
-- the entry is left out of the first.
abbrev pub MoveTied : Type 0
MoveTied = (F full : Stored) (x : Row) (next : ℕ) → Ties F full x next
    → (p : Path) (y : Row) (d : Directory) (n : Name) (z : Row) → row_at p x ≡ Some y → child_of y ≡ Some d → y.origin ≡ origin.Own
    → find_row n d.rows ≡ Some z → child_of z ≡ None → AreStorable (listing_of (changed d n None))
    → (q : Path) (u : Row) (e : Directory) (m : Name) → row_at q (with_listing p (changed d n None) x) ≡ Some u → child_of u ≡ Some e → u.origin ≡ origin.Own
    → MayGo e m → AreStorable (listing_of (changed e m (Some z)))
    → Ties (with_entries (with_entries F y.number (listing_of (changed d n None))) u.number (listing_of (changed e m (Some z))))
    (with_entries (with_entries full y.number (full_listing (changed d n None))) u.number (full_listing (changed e m (Some z))))
    (with_listing q (changed e m (Some z)) (with_listing p (changed d n None) x)) next

-- a new file, of a number that nothing loaded or stored has as its own, leaves the table tied
abbrev pub NewFileTied : Type 0
NewFileTied = (F full : Stored) (x : Row) (next : ℕ) → Ties F full x next
    → (k : ℕ) (w : Option (List ℕ)) → IsStray full k → IsAway x k → Ties (with_file F k w) (with_file full k w) x next

-- ---- from one directory to another

-- an entry that isn't loaded may move from the directory at the one path to that at the other, or within one: both are their
-- own, and can be stored without it and with it, in place of one that isn't loaded
pub record MayMove (x : Row) (p : Path) (n : Name) (q : Path) (m : Name) : Type 0 where
  pub from : Row
  pub source : Directory
  pub entry : Row
  pub at_from : row_at p x ≡ Some from
  pub holds_source : child_of from ≡ Some source
  pub own_from : from.origin ≡ origin.Own
  pub there : find_row n source.rows ≡ Some entry
  pub unloaded : child_of entry ≡ None
  pub entries_left : AreStorable (listing_of (changed source n None))
  -- the other directory, once the entry is left out of the first
  pub to : Row
  pub target : Directory
  pub at_to : row_at q (with_listing p (changed source n None) x) ≡ Some to
  pub holds_target : child_of to ≡ Some target
  pub own_to : to.origin ≡ origin.Own
  pub may_go : MayGo target m
  pub entries_put : AreStorable (listing_of (changed target m (Some entry)))

module _ (x : Row) (p : Path) (n : Name) (q : Path) (m : Name) (may : MayMove x p n q m) where
  -- the table then
  abbrev pub moved_in : Row
  moved_in = with_listing q (changed may.target m (Some may.entry)) (with_listing p (changed may.source n None) x)

  -- the files without the entry, and with it at its new place
  abbrev pub files_left : Stored → Stored
  files_left F = with_entries F may.from.number (listing_of (changed may.source n None))

  abbrev pub files_moved : Stored → Stored
  files_moved F = with_entries (files_left F) may.to.number (listing_of (changed may.target m (Some may.entry)))

  -- the table, its first directory marked unsaved
  abbrev pub marked_source : Row
  marked_source = with_listing p (record may.source { unsaved = true }) x

-- both stores of a move leave the files sound; between them the table is tied once the first directory is marked, and after
-- them as it is then
pub record IsMoveKept (F : Stored) (x : Row) (next : ℕ) (p : Path) (n : Name) (q : Path) (m : Name) (may : MayMove x p n q m) : Type 0 where
  pub first_sound : AreSound (files_left x p n q m may F)
  pub both_sound : AreSound (files_moved x p n q m may F)
  pub marked : Tied (files_left x p n q m may F) (marked_source x p n q m may) next
  pub moved : Tied (files_moved x p n q m may F) (moved_in x p n q m may) next

abbrev pub MovesKept : Type 0
MovesKept = (F : Stored) (x : Row) (next : ℕ) (p : Path) (n : Name) (q : Path) (m : Name) → Tied F x next
    → (may : MayMove x p n q m) → IsMoveKept F x next p n q m may

-- a new entry of a number that nothing names, its own file stored first
abbrev pub NewEntryTied : Type 0
NewEntryTied = (F full : Stored) (x : Row) (next : ℕ) → Ties F full x next
    → (p : Path) (y : Row) (d : Directory) (n : Name) (z : Row) (w : Option (List ℕ)) → row_at p x ≡ Some y → child_of y ≡ Some d → y.origin ≡ origin.Own
    → MayGo d n → child_of z ≡ None → 2 ≤ z.number → z.number < next → IsUnnamed full z.number
    → HoldsKind (with_file full z.number w) z.number z.kind → (z.kind ≡ kind.Dir → HoldsEntries (with_file full z.number w) z.number [])
    → AreStorable (listing_of (changed d n (Some z)))
    → Ties (with_entries (with_file F z.number w) y.number (listing_of (changed d n (Some z))))
    (with_entries (with_file full z.number w) y.number (full_listing (changed d n (Some z)))) (with_listing p (changed d n (Some z)) x) next
