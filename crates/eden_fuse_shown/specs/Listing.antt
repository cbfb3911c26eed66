-- Rows of an open directory, and from which name on it is read.
use Rattle.std.specs.Prelude.{◌≡◌, ℕ, ◌+◌, ◌-◌, ◌==◌, ◌&&◌, nat_le, Bool, nat_lt, List, [], ◌∷◌, ◌++◌, length, Option, Some, None}
use Rattle.std.specs.Prelude.{option_map, option_and_then, drop, not, true, if◌then◌else◌}
use Rattle.std.specs.Ordering.{nat_cmp}
use Rattle.std.specs.BTreeMap.{is_at}
use Rattle.std.specs.Int.{w32, w64, to_le_bytes}
use Rattle.std.specs.List.{flat_map, slice_get}
use Rattle.std.specs.Map.{lookup}
use Rattle.eden_model.specs.Bytes.{dot_byte}
use Rattle.eden_model.specs.declared.kind.Kind.{Kind}
use Rattle.eden_model.specs.declared.kind.Kind.TheVariants as kinds
use Rattle.eden_model.specs.Trees.{Name}
use Rattle.eden_fuse_format.specs.Answers.{padding}
use Rattle.eden_fuse_meaning.specs.Hiding.{is_hidden}
use Rattle.eden_fuse_shown.specs.declared.pages.Page.{Page}

-- ---- rows

abbrev pub Entry : Type 0
Entry = Name × Kind

-- the four bits of a mode above its permissions
abbrev pub type_of : Kind → ℕ
type_of kinds.Link = 10
type_of kinds.Dir = 4
type_of k = 8

abbrev pub four : ℕ → List ℕ
four n = to_le_bytes w32 n

abbrev pub eight : ℕ → List ℕ
eight n = to_le_bytes w64 n

-- a row tells the kernel no number of the node (2 ^ 32 - 1 stands for that), and where to read on behind it
abbrev pub row_head : ℕ → ℕ → ℕ → List ℕ
row_head off len kind = flat_map (λ member. member) (eight 4294967295 ∷ eight off ∷ four len ∷ four kind ∷ [])

abbrev pub row_text : ℕ → Name → Kind → List ℕ
row_text off name kind = row_head off (length name) (type_of kind) ++ name ++ padding (length name)

-- an entry of the root that nobody sees; the root's node is 1
abbrev pub is_unseen : ℕ → Entry → Bool
is_unseen node e = (node == 1) && is_hidden e.0

-- behind these bytes the rows of entries of a directory's node, the first of which is the one after so many, as long as all
-- stays within the size; what nobody sees is passed over
abbrev pub with_rows : ℕ → ℕ → ℕ → List Entry → List ℕ → List ℕ
with_rows node size from [] bytes = bytes
with_rows node size from (e ∷ es) bytes =
    if is_unseen node e then with_rows node size (from + 1) es bytes
    else (if nat_le (length bytes + length (row_text (from + 1) e.0 e.1)) size
    then with_rows node size (from + 1) es (bytes ++ row_text (from + 1) e.0 e.1) else bytes)

-- ---- `.` and `..`, a directory itself and the one above it, come before its entries, which a mount alone tells

abbrev pub itself : Entry
itself = (dot_byte ∷ [], kinds.Dir)

abbrev pub above : Entry
above = (dot_byte ∷ dot_byte ∷ [], kinds.Dir)

-- those of them that come after so many
abbrev pub dots_after : ℕ → List Entry
dots_after n = if n == 0 then itself ∷ above ∷ [] else (if n == 1 then above ∷ [] else [])

-- how many come before the first entry of a mount's that is listed from an offset on
abbrev pub entries_from : ℕ → ℕ
entries_from offset = if nat_lt offset 2 then 2 else offset

-- ---- open directories, by their handles

-- what is known of each: the entries that were listed last, after so many others, `.` and `..` with them, the name before them, and
-- whether others come after them
abbrev pub Table : Type 0
Table = List (ℕ × Page)

abbrev pub page_of_handle : Table → ℕ → Option Page
page_of_handle t handle = lookup (is_at (nat_cmp handle)) t

abbrev pub fresh : Page
fresh = record { from = 0; before = None; rows = []; more = true }

abbrev pub IsSamePages : Table → Table → Type 0
IsSamePages old new = (i : ℕ) → page_of_handle new i ≡ page_of_handle old i

-- a directory was opened by a handle that none had
pub record Opens (old new : Table) (handle : ℕ) : Type 0 where
  pub free : page_of_handle old handle ≡ None
  pub pages : (i : ℕ) → page_of_handle new i ≡ (if i == handle then Some fresh else page_of_handle old i)

-- .. closed
abbrev pub Closes : Table → Table → ℕ → Type 0
Closes old new handle = (i : ℕ) → page_of_handle new i ≡ (if i == handle then None else page_of_handle old i)

-- other entries of it were listed, if it is open
abbrev pub Turns : Table → Table → ℕ → Page → Type 0
Turns old new handle page = (i : ℕ) → page_of_handle new i ≡ (if i == handle then option_map (λ p. page) (page_of_handle old i) else page_of_handle old i)

-- the entries that a page has from an offset on; at its end none, unless others come after them
abbrev pub rows_at : Page → ℕ → Option (List Entry)
rows_at page offset =
    if nat_le page.from offset && nat_lt offset (page.from + length page.rows) then Some (drop (offset - page.from) page.rows)
    else (if (offset == page.from + length page.rows) && not page.more then Some [] else None)

-- .. an open directory, which isn't listed anew for them; from its beginning, up to behind `..`, it always is
abbrev pub kept_at : Option Page → ℕ → Option (List Entry)
kept_at page offset = if nat_le offset 2 then None else option_and_then (λ p. rows_at p offset) page

-- the name after which a page is read on from an offset: so many entries of the directory come before it
abbrev pub name_at : Page → ℕ → Option (Option Name)
name_at page offset =
    if offset == page.from then Some page.before
    else (if nat_lt page.from offset then option_map (λ e. Some e.0) (slice_get page.rows (offset - page.from - 1)) else None)

-- .. a directory: at its beginning, up to behind `..`, or where its last listing has been
abbrev pub last_at : Option Page → ℕ → Option (Option Name)
last_at page offset = if nat_le offset 2 then Some None else option_and_then (λ p. name_at p offset) page
