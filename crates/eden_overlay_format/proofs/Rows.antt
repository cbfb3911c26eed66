-- Rows are found as they are written, and nothing else is.
use Rattle.std.proofs.Common.{◌≡◌, ℕ, zero, suc, ◌+◌, ◌*◌, ◌^◌, ◌<◌, ◌≤◌, ◌==◌, ◌&&◌, true, leb, ltb, List, [], ◌∷◌, ◌++◌, length, Option, Some, None, refl, sym, ap, subst, ◌∙◌, append_assoc, arith}
use Rattle.std.specs.Option.{is_none}
use Rattle.std.specs.List.{flat_map, AllByRecursion}
use Rattle.std.specs.Int.{w32, w64, to_be_bytes}
use Rattle.std.proofs.lemmas.Bool.{leb-true, le-leb, ltb-true, lt-ltb, and_from, eqb-true}
use Rattle.std.proofs.lemmas.List.{append-nil, nil_from_length, length-append}
use Rattle.std.proofs.lemmas.List.Concat.{flat_map-cons}
use Rattle.std.proofs.lemmas.Option.{cond_some, option_and_then_some, same_Some}
use Rattle.eden_model.specs.declared.errno.Errno.{Errno}
use Rattle.eden_model.specs.declared.kind.Kind.{Kind}
use Rattle.eden_model.specs.declared.kind.Kind.TheVariants as kind
use Rattle.eden_model.specs.declared.kind.Origin.{Origin}
use Rattle.eden_model.specs.declared.kind.Origin.TheVariants as origin
use Rattle.eden_model.specs.Limits.{number_least, number_end}
use Rattle.eden_model.specs.Names.{name_refusal}
use Rattle.eden_model.specs.Numbers.{IsNumber}
use Rattle.eden_model.specs.Shown.{if_dir}
use Rattle.eden_overlay_format.specs.declared.stored_entry.StoredEntry.{StoredEntry}
use Rattle.eden_overlay_format.specs.Directory.{kind_code, origin_code, origin_bytes, row, directory_body, HasOrigin, IsStorable}
use Rattle.eden_overlay_format.specs.Reading.{byte_at, bytes_at, number_at, kind_of_code, kind_at, entry_number_at, origin_at, name_at, stored_row_at, rows_at, count_at, rows_of}
use Rattle.eden_overlay_format.proofs.Agreement.{IsRead, Agrees, is_read, step, both, bytes_agree, numbers32, numbers64}

-- ---- the kind

code_told : (n : ℕ) (k : Kind) → kind_of_code n ≡ Some k → n ≡ kind_code k
code_told zero k e = ap kind_code (same_Some kind.File k e)
code_told (suc zero) k e = ap kind_code (same_Some kind.Exec k e)
code_told (suc (suc zero)) k e = ap kind_code (same_Some kind.Link k e)
code_told (suc (suc (suc zero))) k e = ap kind_code (same_Some kind.Dir k e)
code_told (suc (suc (suc (suc n)))) k e = absurd cc

abbrev kind_byte : Kind → List ℕ
kind_byte k = kind_code k ∷ []

kind_only : (bytes : List ℕ) (x : Kind × List ℕ) → kind_at bytes ≡ Some x → IsRead kind_byte (λ k. Unit {0}) bytes x
unfolding kind_at
kind_only [] x e = absurd cc
kind_only (b ∷ rest) x e = option_and_then_some _ (kind_of_code b) x e
    (λ k told then. is_read kind_byte (λ k. Unit {0}) (b ∷ rest) (k, rest) x (record { front = ap (λ (c : ℕ). c ∷ rest) (code_told b k told); good = tt }) then)

kind_again : (k : Kind) (rest : List ℕ) → kind_at (kind_code k ∷ rest) ≡ Some (k, rest)
unfolding kind_at
kind_again kind.File rest = refl
kind_again kind.Exec rest = refl
kind_again kind.Link rest = refl
kind_again kind.Dir rest = refl

-- ---- the number

entry_numbers : Agrees entry_number_at (to_be_bytes w64) IsNumber
unfolding entry_number_at
entry_numbers = record {
  only = λ bytes x e. option_and_then_some _ (number_at w64 bytes) x e (λ n there then.
      let kept = cond_some (leb number_least n.0 && ltb n.0 number_end) n x then in
      let within = both (leb number_least n.0) (ltb n.0 number_end) kept.0 in
      let front = (numbers64.only bytes n there).front in
      subst (IsRead (to_be_bytes w64) IsNumber bytes) kept.1 (record { front = front; good = (leb-true number_least n.0 within.0, ltb-true n.0 number_end within.1) }));
  again = λ n rest h.
      let told : number_at w64 (to_be_bytes w64 n ++ rest) ≡ Some (n, rest) = numbers64.again n rest (omega arith) in
      let within : (leb number_least n && ltb n number_end) ≡ true = and_from _ _ (le-leb _ _ h.0) (lt-ltb _ _ h.1) in
      step (number_at w64 (to_be_bytes w64 n ++ rest)) _ (n, rest) told ∙ rw within refl;
}

-- ---- the origin

abbrev HasCode : ℕ → Kind → Origin → Type 0
HasCode code k o = (code ≡ origin_code o) × HasOrigin k o

empty_only : (k : Kind) (bytes : List ℕ) (x : Origin × List ℕ) → if_dir k (Some (origin.Empty, bytes)) ≡ Some x → IsRead origin_bytes (HasCode 2 k) bytes x
empty_only kind.File bytes x e = absurd cc
empty_only kind.Exec bytes x e = absurd cc
empty_only kind.Link bytes x e = absurd cc
empty_only kind.Dir bytes x e = is_read origin_bytes (HasCode 2 kind.Dir) bytes (origin.Empty, bytes) x (record { front = refl; good = (refl, refl) }) e

origin_only : (code : ℕ) (k : Kind) (bytes : List ℕ) (x : Origin × List ℕ) → origin_at code k bytes ≡ Some x → IsRead origin_bytes (HasCode code k) bytes x
unfolding origin_at
origin_only zero k bytes x e = option_and_then_some _ (bytes_at 20 bytes) x e (λ id there then.
    let read = (bytes_agree 20).only bytes id there in
    let o : Origin = origin.Object (record { bytes = id.0 }) in
    is_read origin_bytes (HasCode 0 k) bytes (o, id.1) x (record { front = read.front; good = (refl, read.good) }) then)
origin_only (suc zero) k bytes x e = is_read origin_bytes (HasCode 1 k) bytes (origin.Own, bytes) x (record { front = refl; good = (refl, tt) }) e
origin_only (suc (suc zero)) k bytes x e = empty_only k bytes x e
origin_only (suc (suc (suc n))) k bytes x e = absurd cc

origin_again : (k : Kind) (o : Origin) (rest : List ℕ) → HasOrigin k o → origin_at (origin_code o) k (origin_bytes o ++ rest) ≡ Some (o, rest)
unfolding origin_at
origin_again k (origin.Object id) rest h = step (bytes_at 20 (id.bytes ++ rest)) _ (id.bytes, rest) ((bytes_agree 20).again id.bytes rest h)
origin_again k origin.Own rest h = refl
origin_again k origin.Empty rest h = ap (λ (j : Kind). if_dir j (Some (origin.Empty, rest))) h

-- ---- the name

abbrev name_text : List ℕ → List ℕ
name_text name = length name ∷ name

abbrev IsName : List ℕ → Type 0
IsName name = name_refusal name ≡ None

none_told : (o : Option Errno) → is_none o ≡ true → o ≡ None
none_told (Some x) e = absurd cc
none_told None e = refl

name_only : (bytes : List ℕ) (x : List ℕ × List ℕ) → name_at bytes ≡ Some x → IsRead name_text IsName bytes x
unfolding name_at
name_only [] x e = absurd cc
name_only (len ∷ rest) x e = option_and_then_some _ (bytes_at len rest) x e (λ text there then.
    let kept = cond_some (is_none (name_refusal text.0)) text x then in
    let read = (bytes_agree len).only rest text there in
    let front : len ∷ rest ≡ name_text text.0 ++ text.1 = rw (read.good, read.front) refl in
    subst (IsRead name_text IsName (len ∷ rest)) kept.1 (record { front = front; good = none_told (name_refusal text.0) kept.0 }))

name_again : (name rest : List ℕ) → IsName name → name_at (name_text name ++ rest) ≡ Some (name, rest)
unfolding name_at
name_again name rest h = step (bytes_at (length name) (name ++ rest)) _ (name, rest) ((bytes_agree (length name)).again name rest refl) ∙ rw h refl

-- ---- a row

byte_only : (bytes : List ℕ) (x : ℕ × List ℕ) → byte_at bytes ≡ Some x → bytes ≡ x.0 ∷ x.1
byte_only [] x e = absurd cc
byte_only (b ∷ rest) x e = ap (λ (y : ℕ × List ℕ). y.0 ∷ y.1) (same_Some (b, rest) x e)

row_only : (bytes : List ℕ) (x : StoredEntry × List ℕ) → stored_row_at bytes ≡ Some x → IsRead row IsStorable bytes x
unfolding stored_row_at
row_only bytes x e =
    option_and_then_some _ (kind_at bytes) x e (λ k k_there e1.
    option_and_then_some _ (byte_at k.1) x e1 (λ code code_there e2.
    option_and_then_some _ (entry_number_at code.1) x e2 (λ n n_there e3.
    option_and_then_some _ (origin_at code.0 k.0 n.1) x e3 (λ o o_there e4.
    option_and_then_some _ (name_at o.1) x e4 (λ name name_there e5.
    let first = (kind_only bytes k k_there).front in
    let second = byte_only k.1 code code_there in
    let third = entry_numbers.only code.1 n n_there in
    let fourth = origin_only code.0 k.0 n.1 o o_there in
    let fifth = name_only o.1 name name_there in
    let entry : StoredEntry = record { name = name.0; kind = k.0; origin = o.0; number = n.0 } in
    let front : bytes ≡ row entry ++ name.1 = first ∙ rw (second, third.front, fourth.front, fifth.front, fourth.good.0) (simp append_assoc) in
    let good : IsStorable entry = record { name = fifth.good; origin = fourth.good.1; least = third.good.0; most = third.good.1 } in
    is_read row IsStorable bytes (entry, name.1) x (record { front = front; good = good }) e5)))))

row_again : (e : StoredEntry) (rest : List ℕ) → IsStorable e → stored_row_at (row e ++ rest) ≡ Some (e, rest)
unfolding stored_row_at
row_again e rest h =
    let text : List ℕ = name_text e.name ++ rest in
    let tail : List ℕ = to_be_bytes w64 e.number ++ (origin_bytes e.origin ++ text) in
    let regrouped : row e ++ rest ≡ kind_code e.kind ∷ origin_code e.origin ∷ tail = simp append_assoc in
    let k = kind_again e.kind (origin_code e.origin ∷ tail) in
    let n = entry_numbers.again e.number (origin_bytes e.origin ++ text) (h.least, h.most) in
    let o = origin_again e.kind e.origin text h.origin in
    let name = name_again e.name rest h.name in
    ap stored_row_at regrouped ∙ rw (k, n, o, name) refl

-- ---- rows

abbrev AreRows : ℕ → List StoredEntry → Type 0
AreRows n es = (length es ≡ n) × AllByRecursion IsStorable es

rows_only : (n : ℕ) (bytes : List ℕ) (x : List StoredEntry × List ℕ) → rows_at n bytes ≡ Some x → IsRead (flat_map row) (AreRows n) bytes x
unfolding rows_at
rows_only zero bytes x e = is_read (flat_map row) (AreRows 0) bytes ([], bytes) x (record { front = refl; good = (refl, tt) }) e
rows_only (suc n) bytes x e =
    option_and_then_some _ (stored_row_at bytes) x e (λ first there e1.
    option_and_then_some _ (rows_at n first.1) x e1 (λ others more e2.
    let a = row_only bytes first there in
    let b = rows_only n first.1 others more in
    let all : List StoredEntry = first.0 ∷ others.0 in
    let joined : row first.0 ++ (flat_map row others.0 ++ others.1) ≡ flat_map row all ++ others.1 =
    sym (append_assoc (row first.0) (flat_map row others.0) others.1) ∙ ap (λ (t : List ℕ). t ++ others.1) (sym (flat_map-cons row first.0 others.0)) in
    let front : bytes ≡ flat_map row all ++ others.1 = a.front ∙ ap (λ (t : List ℕ). row first.0 ++ t) b.front ∙ joined in
    is_read (flat_map row) (AreRows (suc n)) bytes (all, others.1) x (record { front = front; good = (ap suc b.good.0, (a.good, b.good.1)) }) e2))

pub rows_again : (es : List StoredEntry) (rest : List ℕ) → AllByRecursion IsStorable es → rows_at (length es) (flat_map row es ++ rest) ≡ Some (es, rest)
unfolding rows_at
rows_again [] rest h = refl
rows_again (e ∷ es) rest h =
    let regrouped : flat_map row (e ∷ es) ++ rest ≡ row e ++ (flat_map row es ++ rest) = ap (λ (t : List ℕ). t ++ rest) (flat_map-cons row e es) ∙ append_assoc (row e) (flat_map row es) rest in
    let first = row_again e (flat_map row es ++ rest) h.0 in
    let others = rows_again es rest h.1 in
    ap (rows_at (suc (length es))) regrouped ∙ rw (first, others) refl

-- ---- a row has 12 bytes at least

name_least : (name : List ℕ) → IsName name → 1 ≤ length name
name_least [] h = absurd cc
name_least (b ∷ name) h = omega arith

row_least : (e : StoredEntry) → IsStorable e → 12 ≤ length (row e)
row_least e h =
    let least = name_least e.name h.name in
    simp length-append (omega (arith, least))

rows_least : (es : List StoredEntry) → AllByRecursion IsStorable es → 12 * length es ≤ length (flat_map row es)
rows_least [] h = omega arith
rows_least (e ∷ es) h =
    let first = row_least e h.0 in
    let others = rows_least es h.1 in
    let len : length (flat_map row (e ∷ es)) ≡ length (row e) + length (flat_map row es) = ap (length {A = ℕ}) (flat_map-cons row e es) ∙ length-append (row e) (flat_map row es) in
    omega (arith, first, others, len)

-- ---- the body of a directory

abbrev pub IsBody : List ℕ → List StoredEntry → Type 0
IsBody body es = (body ≡ directory_body es) × (length es < 2 ^ 32) × AllByRecursion IsStorable es

pub body_only : (body : List ℕ) (es : List StoredEntry) → rows_of body ≡ Some es → IsBody body es
unfolding rows_of count_at
body_only body es e =
    option_and_then_some _ (count_at body) es e (λ count there e1.
    option_and_then_some _ (rows_at count.0 count.1) es e1 (λ rows more e2.
    option_and_then_some _ (number_at w32 body) count there (λ n first e3.
    let room = cond_some (leb (12 * n.0) (length n.1)) n count e3 in
    let counted : IsRead (to_be_bytes w32) (λ n. n < 2 ^ 32) body count = subst (IsRead (to_be_bytes w32) (λ n. n < 2 ^ 32) body) room.1 (numbers32.only body n first) in
    let read = rows_only count.0 count.1 rows more in
    let ended = cond_some (length rows.1 == 0) rows.0 es e2 in
    let nothing : rows.1 ≡ [] = nil_from_length rows.1 (eqb-true _ _ ended.0) in
    let all : body ≡ directory_body rows.0 = counted.front ∙ rw (read.good.0, read.front, nothing, append-nil) refl in
    let few : length rows.0 < 2 ^ 32 = omega (arith, read.good.0, counted.good) in
    subst (IsBody body) ended.1 (all, few, read.good.1))))

pub body_again : (es : List StoredEntry) → length es < 2 ^ 32 → AllByRecursion IsStorable es → rows_of (directory_body es) ≡ Some es
unfolding rows_of count_at
body_again es few each =
    let count : number_at w32 (directory_body es) ≡ Some (length es, flat_map row es) = numbers32.again (length es) (flat_map row es) few in
    let room : leb (12 * length es) (length (flat_map row es)) ≡ true = le-leb _ _ (rows_least es each) in
    let rows : rows_at (length es) (flat_map row es) ≡ Some (es, []) = ap (rows_at (length es)) (sym (append-nil (flat_map row es))) ∙ rows_again es [] each in
    rw (count, room, rows) refl
