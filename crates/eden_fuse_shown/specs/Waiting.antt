-- Bytes that were answered and aren't stored yet: of each file at most one extent, by its node.
use Rattle.std.specs.Prelude.{◌≡◌, ℕ, ◌+◌, ◌-◌, ◌==◌, ◌&&◌, nat_le, nat_lt, not, Bool, true, List, ◌++◌, length, Option, Some, None, if◌then◌else◌}
use Rattle.std.specs.Prelude.{drop, max, take}
use Rattle.std.specs.Ordering.{nat_cmp}
use Rattle.std.specs.BTreeMap.{is_at}
use Rattle.std.specs.List.{sum_by}
use Rattle.std.specs.Map.{lookup, values_of}
use Rattle.eden_model.specs.Limits.{most_file}
use Rattle.eden_model.specs.Operations.{resized, written}
use Rattle.eden_fuse_shown.specs.declared.extents.Gap.{Gap}

-- bytes of a file, from an offset on
pub record Extent : Type 0 where
  pub from : ℕ
  pub bytes : List ℕ

abbrev pub Table : Type 0
Table = List (ℕ × Extent)

-- what waits for a node
abbrev pub extent_of : Table → ℕ → Option Extent
extent_of t i = lookup (is_at (nat_cmp i)) t

-- ---- what is seen of a file, where that is what a mount tells of it

-- how long it is, with what waits for it; no file is longer than the longest
abbrev pub seen_length : Option Extent → ℕ → ℕ
seen_length None size = size
seen_length (Some e) size =
    if nat_lt 0 (length e.bytes) && nat_le (e.from + length e.bytes) most_file then max size (e.from + length e.bytes) else size

-- so many bytes of it from an offset on, of which the mount tells these
abbrev pub seen_part : Option Extent → ℕ → ℕ → List ℕ → List ℕ
seen_part None from count part = part
seen_part (Some e) from count part =
    if nat_lt e.from from then take count (written 0 (drop (from - e.from) e.bytes) part)
    else take count (written (e.from - from) e.bytes part)

-- ---- how much waits

-- the bytes of all
abbrev pub all_of : Table → ℕ
all_of t = sum_by (λ e. length e.bytes) (values_of t)

-- at most 128 MiB
abbrev pub most_waiting : ℕ
most_waiting = 134217728

-- ---- what a write makes of it

-- bytes at an offset begin in it, or where it ends; or they begin one
abbrev pub can_join : Option Extent → ℕ → Bool
can_join None from = true
can_join (Some e) from = nat_le e.from from && nat_le from (e.from + length e.bytes)

-- .. and wait, unless there is no room, or no file is so long
abbrev pub may_wait : Table → ℕ → ℕ → List ℕ → Bool
may_wait t node from b =
    can_join (extent_of t node) from && nat_le (from + length b) most_file && nat_le (all_of t + length b) most_waiting

-- with these bytes written into it
abbrev pub joined : Option Extent → ℕ → List ℕ → Extent
joined None from b = record { from = from; bytes = b }
joined (Some e) from b = record { from = e.from; bytes = written (from - e.from) b e.bytes }

abbrev pub Adds : Table → Table → ℕ → ℕ → List ℕ → Type 0
Adds old new node from b = (i : ℕ) → extent_of new i ≡ (if i == node then Some (joined (extent_of old i) from b) else extent_of old i)

-- ---- .. one that doesn't join, with the file's own bytes between

-- at most 64 MiB wait then, so that half of the room is left
abbrev pub most_bridged : ℕ
most_bridged = 67108864

-- what lies between what waits and an offset in front of it or behind it
abbrev pub gap_at : Extent → ℕ → Gap
gap_at e from =
    if nat_lt from e.from then record { from = from; len = e.from - from }
    else record { from = e.from + length e.bytes; len = from - (e.from + length e.bytes) }

-- .. that don't join it, if neither is empty, and there is room beside so many bytes
abbrev pub has_room : ℕ → Extent → ℕ → List ℕ → Bool
has_room all e from b = not (can_join (Some e) from) && nat_lt 0 (length e.bytes) && nat_lt 0 (length b)
    && nat_le (e.from + length e.bytes) most_file && nat_le (from + length b) most_file
    && nat_le (all + (gap_at e from).len + length b) most_bridged

abbrev pub gap_in : ℕ → Option Extent → ℕ → List ℕ → Option Gap
gap_in all None from b = None
gap_in all (Some e) from b = if has_room all e from b then Some (gap_at e from) else None

abbrev pub gap_of : Table → ℕ → ℕ → List ℕ → Option Gap
gap_of t node from b = gap_in (all_of t) (extent_of t node) from b

-- with what the file has there, and zeros behind its end
abbrev pub bridged : Extent → ℕ → List ℕ → Extent
bridged e from between =
    if nat_lt from e.from then record { from = from; bytes = resized (e.from - from) between ++ e.bytes }
    else record { from = e.from; bytes = e.bytes ++ resized (from - (e.from + length e.bytes)) between }

abbrev pub across : Option Extent → ℕ → List ℕ → List ℕ → Option Extent
across None from between b = None
across (Some e) from between b = Some (joined (Some (bridged e from between)) from b)

abbrev pub Bridges : Table → Table → ℕ → ℕ → List ℕ → List ℕ → Type 0
Bridges old new node from between b =
    (i : ℕ) → extent_of new i ≡ (if i == node then across (extent_of old i) from between b else extent_of old i)

-- ---- the end

-- nothing waits for the node any more
abbrev pub Ends : Table → Table → ℕ → Type 0
Ends old new node = (i : ℕ) → extent_of new i ≡ (if i == node then None else extent_of old i)
