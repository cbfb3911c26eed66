-- What stored bytes hold, as functions: the value, or none. `format_laws` says that they are the grammars.
use Rattle.std.specs.Prelude.{◌≤◌, ◌&&◌, ℕ, Bool, true, List, [], ◌∷◌, length, Option, Some, None, nat_le, if◌then◌else◌, IsSomeAnd}
use Rattle.std.specs.Cmp.Lexicographic.{slice_cmp}
use Rattle.std.specs.Ordering.{nat_cmp, is_lt}
use Rattle.eden_model.specs.declared.id.Id.{Id}
use Rattle.eden_overlay_format.specs.declared.header.Identifier.{Identifier}
use Rattle.eden_overlay_format.specs.declared.header.Identifier.TheVariants as identifier
use Rattle.eden_overlay_format.specs.declared.refusal.DecodeFault.{DecodeFault}
use Rattle.eden_overlay_format.specs.declared.refusal.DecodeFault.TheVariants as fault
use Rattle.eden_overlay_format.specs.declared.state.State.{State}
use Rattle.eden_overlay_format.specs.declared.stored_entry.StoredEntry.{StoredEntry}
use Rattle.eden_overlay_format.specs.Stored.{body_in, Refuses}
use Rattle.eden_overlay_format.specs.Content.{content_most}
use Rattle.eden_overlay_format.specs.Numbers.{none_is_own}
use Rattle.eden_overlay_format.specs.Reading.{◌>>=◌, bytes_at, state_of, count_at, rows_of}

-- of a file or a link
unfoldable pub content_in : List ℕ → Option (List ℕ)
content_in bytes = do
  content ← body_in identifier.File bytes
  if nat_le (length content) content_most then Some content else None

unfoldable pub state_in : List ℕ → Option State
state_in bytes = body_in identifier.File bytes >>= state_of

-- each name comes before the next
abbrev pub is_rising : List StoredEntry → Bool
is_rising [] = true
is_rising (x ∷ []) = true
is_rising (x ∷ y ∷ es) = is_lt (slice_cmp nat_cmp x.name y.name) && is_rising (y ∷ es)

-- of a whole body
unfoldable pub entries_of : List ℕ → Option (List StoredEntry)
entries_of body = do
  entries ← rows_of body
  if is_rising entries then Some entries else None

-- of a directory
unfoldable pub entries_in : List ℕ → Option (List StoredEntry)
entries_in bytes = body_in identifier.Directory bytes >>= entries_of

-- of a directory that stands on a tree object: the object's id, and the entries with their numbers
unfoldable pub numbers_in : List ℕ → Option (Id × List StoredEntry)
numbers_in bytes = do
  body ← body_in identifier.Numbers bytes
  tree ← bytes_at 20 body
  entries ← entries_of tree.1
  if none_is_own entries then Some (record { bytes = tree.0 }, entries) else None

-- ---- why nothing was found

-- the bytes claim a row or more, and are long enough for all that they claim
abbrev pub ClaimsRows : List ℕ → Type 0
ClaimsRows bytes = IsSomeAnd (count_at bytes) (λ count. 1 ≤ count.0)

-- what stands behind the header, and in a file of numbers behind the tree's id
abbrev pub rows_in : Identifier → List ℕ → Option (List ℕ)
rows_in identifier.File bytes = None
rows_in identifier.Directory bytes = body_in identifier.Directory bytes
rows_in identifier.Numbers bytes = do
  body ← body_in identifier.Numbers bytes
  tree ← bytes_at 20 body
  Some tree.1

-- there is no value, or memory was asked for
abbrev pub FailsWith : {X : Type 0} → Identifier → (List ℕ → Option X) → List ℕ → DecodeFault → Type 0
FailsWith i value bytes (fault.Refused e) = Refuses i value bytes e
FailsWith i value bytes fault.Memory = IsSomeAnd (rows_in i bytes) ClaimsRows
