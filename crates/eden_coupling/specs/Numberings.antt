-- The inode numbers that a table of entries in memory shows, over stored files.
use Rattle.std.specs.Prelude.{◌≡◌, ◌++◌, ◌≢◌, ℕ, List, [], ◌∷◌, Option, Some, None}
use Rattle.std.specs.Option.{option_map, option_and_then}
use Rattle.eden_model.specs.declared.id.Id.{Id}
use Rattle.eden_model.specs.declared.kind.Origin.{Origin}
use Rattle.eden_model.specs.declared.kind.Origin.TheVariants as origin
use Rattle.eden_model.specs.Named.{named}
use Rattle.eden_model.specs.Numbers.{Numbering}
use Rattle.eden_model.specs.Paths.{behind_of}
use Rattle.eden_model.specs.Shown.{if_dir}
use Rattle.eden_model.specs.Trees.{Name, Path, grafted}
use Rattle.eden_overlay_format.specs.declared.stored_entry.StoredEntry.{StoredEntry}
use Rattle.eden_overlay.specs.Files.{Stored}
use Rattle.eden_overlay.specs.Held.{entries_at, saved_at}
use Rattle.eden_tree.specs.Directory.{unloaded, Row, Directory, child_of, with_child}
use Rattle.eden_tree.specs.Rows.{find_row}
use Rattle.eden_tree.specs.Paths.{row_at, edit_row, stamped_along}

-- the entries that files have, by the number of their directory: of one of its own, and of one on that tree object, whose
-- numbers were saved
pub record NumberFiles : Type 0 where
  pub own : ℕ → Option (List StoredEntry)
  pub saved : ℕ → Id → Option (List StoredEntry)

-- stored files, with those numbers saved
abbrev pub number_files : Stored → (ℕ → Id → Option (List StoredEntry)) → NumberFiles
number_files F saved = record { own = entries_at F; saved = saved }

-- .. as they are saved in the files themselves
abbrev pub in_files : Stored → NumberFiles
in_files F = number_files F (saved_at F)

-- what is stored for an entry that isn't loaded
abbrev pub entries_by : NumberFiles → ℕ → Origin → Option (List StoredEntry)
entries_by M k (origin.Object id) = M.saved k id
entries_by M k origin.Own = M.own k
entries_by M k origin.Empty = None

abbrev pub stored_below : NumberFiles → Row → Option (List StoredEntry)
stored_below M x = if_dir x.kind (entries_by M x.number x.origin)

-- a stored entry, as it is in memory once its directory is loaded
abbrev pub row_of : StoredEntry → Row
row_of e = record { number = e.number; kind = e.kind; origin = e.origin; child = unloaded }

abbrev pub row_named : Name → List StoredEntry → Option Row
row_named n es = option_map row_of (named (λ (e : StoredEntry). e.name) n es)

-- the entry of that name: in the loaded directory, or else in the stored one
abbrev pub entry_from : Option Directory → Option (List StoredEntry) → Name → Option Row
entry_from (Some d) stored n = find_row n d.rows
entry_from None stored n = option_and_then (row_named n) stored

abbrev pub entry_below : NumberFiles → Row → Name → Option Row
entry_below M x n = entry_from (child_of x) (stored_below M x) n

-- the numbers from an entry on: of entries in memory, and of stored ones below
abbrev pub numbers : NumberFiles → Row → Numbering
numbers M x [] = Some x.number
numbers M x (n ∷ p) = option_and_then (λ z. numbers M z p) (entry_below M x n)

-- .. where there may be none
abbrev pub numbers_from : NumberFiles → Option Row → Numbering
numbers_from M o = λ p. option_and_then (λ z. numbers M z p) o

-- the entry at a path, in memory or stored
abbrev pub entry_at : NumberFiles → Row → Path → Option Row
entry_at M x [] = Some x
entry_at M x (n ∷ p) = option_and_then (λ z. entry_at M z p) (entry_below M x n)

-- ---- what is promised, path by path

-- what stands at a path has the number of the entry there
abbrev pub NumbersOfEntries : Type 0
NumbersOfEntries = (M : NumberFiles) (x : Row) (p : Path) → numbers M x p ≡ option_map (λ z. z.number) (entry_at M x p)

-- what stands at and below an entry in memory has the numbers from that entry on
abbrev pub NumbersFromEntry : Type 0
NumbersFromEntry = (M : NumberFiles) (x y : Row) (p q : Path) → row_at p x ≡ Some y → numbers M x (p ++ q) ≡ numbers M y q

-- with another entry at a path, its numbers stand at and below it, and all else is as before
abbrev pub EntryGrafts : Type 0
EntryGrafts = (M : NumberFiles) (p : Path) (f : Row → Row) (x y : Row) (q : Path) → row_at p x ≡ Some y
    → numbers M (edit_row p f x) q ≡ grafted (behind_of p q) (numbers M (f y)) (numbers M x q)

-- with another entry under a name of a loaded directory, or none, its numbers stand at and below the name, and all else
-- is as before
abbrev pub NameGrafts : Type 0
NameGrafts = (M : NumberFiles) (p : Path) (n : Name) (x y : Row) (d e : Directory) (q : Path) → row_at p x ≡ Some y → child_of y ≡ Some d
    → ((m : Name) → m ≢ n → find_row m e.rows ≡ find_row m d.rows)
    → numbers M (edit_row p (with_child (Some e)) x) q ≡ grafted (behind_of (p ++ n ∷ []) q) (numbers_from M (find_row n e.rows)) (numbers M x q)

-- stamps and marks are not seen
abbrev pub StampsUnseen : Type 0
StampsUnseen = (M : NumberFiles) (p : Path) (clock : ℕ) (x : Row) (q : Path) → numbers M (stamped_along p clock x) q ≡ numbers M x q
