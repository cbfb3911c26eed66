-- Reading a body from left to right. A field is a value and what stands behind it; what can't be read has none.
use Rattle.std.specs.Prelude.{◌≡◌, ◌*◌, ◌==◌, ◌&&◌, ℕ, zero, suc, List, [], ◌∷◌, length, take, drop, Option, Some, None, Result, Ok, Err, nat_lt, nat_le}
use Rattle.std.specs.Prelude.{if◌then◌else◌}
use Rattle.std.specs.Option.{is_none, option_and_then}
use Rattle.std.specs.Int.{Width, w32, w64, byte_len, from_be_bytes, to_be_bytes, is_in_range}
use Rattle.std.specs.Str.{bytes_eq}
use Rattle.eden_model.specs.declared.kind.Kind.{Kind}
use Rattle.eden_model.specs.declared.kind.Kind.TheVariants as kind
use Rattle.eden_model.specs.declared.kind.Origin.{Origin}
use Rattle.eden_model.specs.declared.kind.Origin.TheVariants as origin
use Rattle.eden_model.specs.Limits.{number_least, number_end}
use Rattle.eden_model.specs.Names.{name_refusal}
use Rattle.eden_model.specs.Shown.{if_dir}
use Rattle.eden_overlay_format.specs.declared.refusal.Refusal.{Refusal}
use Rattle.eden_overlay_format.specs.declared.refusal.Refusal.TheVariants.{BadBody}
use Rattle.eden_overlay_format.specs.declared.refusal.DecodeFault.{DecodeFault}
use Rattle.eden_overlay_format.specs.declared.refusal.DecodeFault.TheVariants as fault
use Rattle.eden_overlay_format.specs.declared.state.State.{State}
use Rattle.eden_overlay_format.specs.declared.stored_entry.StoredEntry.{StoredEntry}

infixl 10 ◌>>=◌
abbrev pub ◌>>=◌ : {A B : Type 0} → Option A → (A → Option B) → Option B
o >>= f = option_and_then f o

abbrev pub Field : Type 0 → Type 0
Field A = Option (A × List ℕ)

abbrev pub byte_at : List ℕ → Field ℕ
byte_at [] = None
byte_at (b ∷ rest) = Some (b, rest)

abbrev pub bytes_at : ℕ → List ℕ → Field (List ℕ)
bytes_at n bytes = if nat_le n (length bytes) then Some (take n bytes, drop n bytes) else None

-- the number that is written so; what isn't made of bytes is no number
unfoldable pub number_at : Width → List ℕ → Field ℕ
number_at w bytes = do
  digits ← bytes_at (byte_len w) bytes
  if bytes_eq (to_be_bytes w (from_be_bytes w digits.0)) digits.0 then Some (from_be_bytes w digits.0, digits.1) else None

-- ---- the state

unfoldable pub state_of : List ℕ → Option State
state_of body = do
  id ← bytes_at 20 body
  next ← number_at w64 id.1
  if length next.1 == 0 && is_in_range number_least number_end next.0 then Some (record { root = record { bytes = id.0 }; next = next.0 }) else None

-- ---- a directory

abbrev pub kind_of_code : ℕ → Option Kind
kind_of_code zero = Some kind.File
kind_of_code (suc zero) = Some kind.Exec
kind_of_code (suc (suc zero)) = Some kind.Link
kind_of_code (suc (suc (suc zero))) = Some kind.Dir
kind_of_code (suc (suc (suc (suc n)))) = None

unfoldable pub kind_at : List ℕ → Field Kind
kind_at bytes = do
  code ← byte_at bytes
  k ← kind_of_code code.0
  Some (k, code.1)

unfoldable pub entry_number_at : List ℕ → Field ℕ
entry_number_at bytes = do
  n ← number_at w64 bytes
  if nat_le number_least n.0 && nat_lt n.0 number_end then Some n else None

-- behind the code, the kind and the number
unfoldable pub origin_at : ℕ → Kind → List ℕ → Field Origin
origin_at zero k bytes = do
  id ← bytes_at 20 bytes
  Some (origin.Object (record { bytes = id.0 }), id.1)
origin_at (suc zero) k bytes = Some (origin.Own, bytes)
origin_at (suc (suc zero)) k bytes = if_dir k (Some (origin.Empty, bytes))
origin_at (suc (suc (suc n))) k bytes = None

unfoldable pub name_at : List ℕ → Field (List ℕ)
name_at bytes = do
  len ← byte_at bytes
  text ← bytes_at len.0 len.1
  if is_none (name_refusal text.0) then Some text else None

unfoldable pub stored_row_at : List ℕ → Field StoredEntry
stored_row_at bytes = do
  k ← kind_at bytes
  code ← byte_at k.1
  n ← entry_number_at code.1
  o ← origin_at code.0 k.0 n.1
  name ← name_at o.1
  Some (record { name = name.0; kind = k.0; origin = o.0; number = n.0 }, name.1)

unfoldable pub rows_at : ℕ → List ℕ → Field (List StoredEntry)
rows_at zero bytes = Some ([], bytes)
rows_at (suc n) bytes = do
  first ← stored_row_at bytes
  others ← rows_at n first.1
  Some (first.0 ∷ others.0, others.1)

-- how many rows follow, where the bytes behind have room for them: each takes 12 at least
unfoldable pub count_at : List ℕ → Field ℕ
count_at body = do
  count ← number_at w32 body
  if nat_le (12 * count.0) (length count.1) then Some count else None

-- the rows of a whole body, in any order
unfoldable pub rows_of : List ℕ → Option (List StoredEntry)
rows_of body = do
  count ← count_at body
  rows ← rows_at count.0 count.1
  if length rows.1 == 0 then Some rows.0 else None

-- ---- what a private reader answers

-- the field, seen by view; what can't be read is BadBody
abbrev pub Reaches : {X Y : Type 0} → (X → Y) → Result X Refusal → Option Y → Type 0
Reaches view (Ok x) field = field ≡ Some (view x)
Reaches view (Err e) field = (e ≡ BadBody) × (field ≡ None)

-- the same, unless memory ran out
abbrev pub Fails : {Y : Type 0} → DecodeFault → Option Y → Type 0
Fails fault.Memory field = Unit {0}
Fails (fault.Refused e) field = (e ≡ BadBody) × (field ≡ None)

abbrev pub Gives : {X Y : Type 0} → (X → Y) → Result X DecodeFault → Option Y → Type 0
Gives view (Ok x) field = field ≡ Some (view x)
Gives view (Err e) field = Fails e field
