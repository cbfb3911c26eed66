-- Rows are passed one after the other, up to a name.
use Rattle.std.proofs.Common.{◌≡◌, ◌≤◌, ◌<◌, ℕ, ◌+◌, ◌-◌, Bool, true, false, List, [], ◌∷◌, ◌++◌, length, take, drop, get_or, refl, sym, ap, ◌∙◌, append_assoc, arith, if◌then◌else◌}
use Rattle.std.specs.List.{flat_map, AllByRecursion}
use Rattle.std.specs.Int.{w64, to_be_bytes}
use Rattle.std.specs.Str.{bytes_eq}
use Rattle.std.specs.declared.cmp.Ordering.{Ordering}
use Rattle.std.specs.declared.cmp.Ordering.TheVariants.{Less, Equal, Greater}
use Rattle.std.specs.Ordering.{nat_cmp, is_lt, is_eq}
use Rattle.std.specs.Cmp.Lexicographic.{slice_cmp, nat_list_eq_equiv}
use Rattle.std.proofs.lemmas.Map.Text.{is_eq-slice_cmp}
use Rattle.std.proofs.lemmas.List.{append-nil, length-append, take_at, drop_at, drop-drop, get_or-drop}
use Rattle.std.proofs.lemmas.List.Concat.{flat_map-cons}
use Rattle.std.proofs.lemmas.Grind.{flat_map-append}
use Rattle.eden_model.specs.declared.kind.Kind.{Kind}
use Rattle.eden_model.specs.declared.kind.Origin.{Origin}
use Rattle.eden_model.specs.declared.kind.Origin.TheVariants as origin
use Rattle.eden_model.specs.Trees.{Name}
use Rattle.eden_model.specs.Operations.{name_lt}
use Rattle.eden_overlay_format.specs.declared.stored_entry.StoredEntry.{StoredEntry}
use Rattle.eden_overlay_format.specs.Directory.{IsStorable, HasOrigin, kind_code, origin_code, origin_bytes, row}
use Rattle.eden_overlay_format.specs.Listing.{AreRowsOf}
use Rattle.eden_overlay_format.specs.Changing.{entries_before, entries_behind, IsSplit, BeginsWithRow, TellsRow}

-- so many rows are passed, whose names are less, and what is left tells where the name stands
pub record IsPassed (n : Name) (es : List StoredEntry) (count counter : ℕ) (rows rest : List ℕ) : Type 0 where
  pub front : List StoredEntry
  pub left : List StoredEntry
  pub each : AllByRecursion IsStorable left
  pub passed : length front ≡ counter
  pub counted : length left + counter ≡ count
  pub rows_are : rows ≡ flat_map row front ++ rest
  pub rest_is : rest ≡ flat_map row left
  pub before : entries_before n es ≡ front ++ entries_before n left
  pub behind : entries_behind n es ≡ entries_behind n left

pub none_passed : (n : Name) (es : List StoredEntry) (count : ℕ) (rows : List ℕ) → AreRowsOf es count rows → IsPassed n es count 0 rows rows
none_passed n es count rows r = record {
  front = [];
  left = es;
  each = r.each;
  passed = refl;
  counted = omega (arith, r.counted);
  rows_are = refl;
  rest_is = r.written;
  before = refl;
  behind = refl;
}

-- the next row, where one is left
pub record IsNext (n : Name) (es : List StoredEntry) (count counter : ℕ) (rows rest : List ℕ) : Type 0 where
  pub front : List StoredEntry
  pub entry : StoredEntry
  pub left : List StoredEntry
  pub storable : IsStorable entry
  pub each : AllByRecursion IsStorable left
  pub passed : length front ≡ counter
  pub counted : length left + (counter + 1) ≡ count
  pub rows_are : rows ≡ flat_map row front ++ rest
  pub rest_is : rest ≡ row entry ++ flat_map row left
  pub before : entries_before n es ≡ front ++ entries_before n (entry ∷ left)
  pub behind : entries_behind n es ≡ entries_behind n (entry ∷ left)

module _ (n : Name) (es : List StoredEntry) (count counter : ℕ) (rows rest : List ℕ) where
  next_of : (front left : List StoredEntry) → AllByRecursion IsStorable left → length front ≡ counter → length left + counter ≡ count → rows ≡ flat_map row front ++ rest
      → rest ≡ flat_map row left → entries_before n es ≡ front ++ entries_before n left → entries_behind n es ≡ entries_behind n left → counter < count
      → IsNext n es count counter rows rest
  next_of front [] each passed counted is behind_is before behind lt = absurd (omega (arith, counted, lt))
  next_of front (e ∷ left) each passed counted is behind_is before behind lt = record {
    front = front;
    entry = e;
    left = left;
    storable = each.0;
    each = each.1;
    passed = passed;
    counted = omega (arith, counted);
    rows_are = is;
    rest_is = behind_is ∙ flat_map-cons row e left;
    before = before;
    behind = behind;
  }

  pub next : IsPassed n es count counter rows rest → counter < count → IsNext n es count counter rows rest
  next p lt = next_of p.front p.left p.each p.passed p.counted p.rows_are p.rest_is p.before p.behind lt

  pub begins : IsNext n es count counter rows rest → BeginsWithRow rest
  begins x = record { entry = x.entry; rest = flat_map row x.left; storable = x.storable; starts = x.rest_is }

  -- what is left isn't longer
  pub shorter : IsPassed n es count counter rows rest → length rest ≤ length rows
  shorter p = omega (arith, ap length p.rows_are, length-append (flat_map row p.front) rest)

  all_of : (front left : List StoredEntry) → length left + counter ≡ count → count ≤ counter → rows ≡ flat_map row front ++ rest → rest ≡ flat_map row left → length front ≡ counter
      → entries_before n es ≡ front ++ entries_before n left → entries_behind n es ≡ entries_behind n left → IsSplit n es rows rest count
  all_of front (e ∷ left) counted le is behind_is passed before behind = absurd (omega (arith, counted, le))
  all_of front [] counted le is behind_is passed before behind =
      let all : entries_before n es ≡ front = before ∙ append-nil front in
      record {
        rows_before = is ∙ ap (λ (r : List ℕ). flat_map row front ++ r) behind_is ∙ append-nil (flat_map row front) ∙ ap (flat_map row) (sym all);
        rows_behind = behind_is ∙ ap (flat_map row) (sym behind);
        counted = omega (arith, counted, passed, ap length all, ap length behind);
      }

  -- none is left
  pub all_passed : IsPassed n es count counter rows rest → count ≤ counter → IsSplit n es rows rest count
  all_passed p le = all_of p.front p.left p.counted le p.rows_are p.rest_is p.passed p.before p.behind

  module _ (x : IsNext n es count counter rows rest) (name behind : List ℕ) (tells : TellsRow rest name behind) where
    told : (name ≡ x.entry.name) × (behind ≡ flat_map row x.left)
    told = tells x.entry (flat_map row x.left) x.storable x.rest_is

    compared : (o : Ordering) → o ≡ slice_cmp nat_cmp name n → slice_cmp nat_cmp x.entry.name n ≡ o
    compared o e = ap (λ (m : Name). slice_cmp nat_cmp m n) (sym told.0) ∙ sym e

    equals : bytes_eq n x.entry.name ≡ is_eq (slice_cmp nat_cmp x.entry.name n)
    equals = nat_list_eq_equiv.symm n x.entry.name ∙ sym (is_eq-slice_cmp x.entry.name n)

    front_rows : take (length rows - length rest) rows ≡ flat_map row x.front
    front_rows =
        let at : length rows - length rest ≡ length (flat_map row x.front) = omega (arith, ap length x.rows_are, length-append (flat_map row x.front) rest) in
        ap (λ (k : ℕ). take k rows) at ∙ ap (take (length (flat_map row x.front))) x.rows_are ∙ take_at (flat_map row x.front) rest (length (flat_map row x.front)) refl

    -- its name is less
    pub is_less : Less ≡ slice_cmp nat_cmp name n → IsPassed n es count (counter + 1) rows behind
    is_less e =
        let lt : name_lt x.entry.name n ≡ true = ap is_lt (compared Less e) in
        record {
          front = x.front ++ x.entry ∷ [];
          left = x.left;
          each = x.each;
          passed = omega (arith, x.passed, length-append x.front (x.entry ∷ []));
          counted = x.counted;
          rows_are = x.rows_are ∙ ap (λ (r : List ℕ). flat_map row x.front ++ r) (x.rest_is ∙ ap (λ (r : List ℕ). row x.entry ++ r) (sym told.1))
              ∙ sym (append_assoc (flat_map row x.front) (row x.entry) behind)
              ∙ ap (λ (r : List ℕ). r ++ behind) (ap (λ (r : List ℕ). flat_map row x.front ++ r) (sym (append-nil (row x.entry))) ∙ sym (flat_map-append row x.front (x.entry ∷ [])));
          rest_is = told.1;
          before = x.before ∙ ap (λ (b : Bool). x.front ++ (if b then x.entry ∷ entries_before n x.left else [])) lt ∙ sym (append_assoc x.front (x.entry ∷ []) (entries_before n x.left));
          behind = x.behind ∙ ap (λ (b : Bool). if b then entries_behind n x.left else (if bytes_eq n x.entry.name then x.left else x.entry ∷ x.left)) lt;
        }

    module _ (others : List StoredEntry) (least : name_lt x.entry.name n ≡ false) (stays : (if bytes_eq n x.entry.name then x.left else x.entry ∷ x.left) ≡ others) where
      all_before : entries_before n es ≡ x.front
      all_before = x.before ∙ ap (λ (b : Bool). x.front ++ (if b then x.entry ∷ entries_before n x.left else [])) least ∙ append-nil x.front

      all_behind : entries_behind n es ≡ others
      all_behind = x.behind ∙ ap (λ (b : Bool). if b then entries_behind n x.left else (if bytes_eq n x.entry.name then x.left else x.entry ∷ x.left)) least ∙ stays

      stops : (after : List ℕ) (k : ℕ) → after ≡ flat_map row others → k ≡ counter + length others → IsSplit n es (take (length rows - length rest) rows) after k
      stops after k is count = record {
        rows_before = front_rows ∙ ap (flat_map row) (sym all_before);
        rows_behind = is ∙ ap (flat_map row) (sym all_behind);
        counted = omega (arith, count, x.passed, ap length all_before, ap length all_behind);
      }

    -- it is the name
    pub is_equal : Equal ≡ slice_cmp nat_cmp name n → IsSplit n es (take (length rows - length rest) rows) behind (count - 1)
    is_equal e =
        let same = compared Equal e in
        let is : bytes_eq n x.entry.name ≡ true = equals ∙ ap is_eq same in
        stops x.left (ap is_lt same) (ap (λ (b : Bool). if b then x.left else x.entry ∷ x.left) is) behind (count - 1) told.1 (omega (arith, x.counted))

    -- it is greater
    pub is_greater : Greater ≡ slice_cmp nat_cmp name n → IsSplit n es (take (length rows - length rest) rows) rest count
    is_greater e =
        let more = compared Greater e in
        let other : bytes_eq n x.entry.name ≡ false = equals ∙ ap is_eq more in
        let stays = ap (λ (b : Bool). if b then x.left else x.entry ∷ x.left) other in
        stops (x.entry ∷ x.left) (ap is_lt more) stays rest count (x.rest_is ∙ sym (flat_map-cons row x.entry x.left)) (omega (arith, x.counted))

-- ---- where a row's name stands

id_passed : (k : Kind) (o : Origin) (text : List ℕ) → HasOrigin k o → origin_code o ≡ 0 → drop 20 (origin_bytes o ++ text) ≡ text
id_passed k (origin.Object id) text h e = drop_at id.bytes text 20 h
id_passed k origin.Own text h e = absurd cc
id_passed k origin.Empty text h e = absurd cc

no_id : (o : Origin) → (origin_code o ≡ 0 → ⊥) → origin_bytes o ≡ []
no_id (origin.Object id) other = absurd (other refl)
no_id origin.Own other = refl
no_id origin.Empty other = refl

module _ (bytes : List ℕ) (e : StoredEntry) (rest : List ℕ) (good : IsStorable e) (is : bytes ≡ row e ++ rest) where
  abbrev text : List ℕ
  text = length e.name ∷ (e.name ++ rest)

  regrouped : bytes ≡ kind_code e.kind ∷ origin_code e.origin ∷ (to_be_bytes w64 e.number ++ (origin_bytes e.origin ++ text))
  regrouped = is ∙ simp append_assoc

  code : get_or bytes 1 0 ≡ origin_code e.origin
  code = ap (λ (l : List ℕ). get_or l 1 0) regrouped

  pub named_behind_id : get_or bytes 1 0 ≡ 0 → drop 30 bytes ≡ text
  named_behind_id object = ap (drop 30) regrouped ∙ id_passed e.kind e.origin text good.origin (sym code ∙ object)

  pub named : (get_or bytes 1 0 ≡ 0 → ⊥) → drop 10 bytes ≡ text
  named other = ap (drop 10) regrouped ∙ ap (λ (id : List ℕ). id ++ text) (no_id e.origin (λ none. other (code ∙ none)))

  module _ (place : ℕ) (at : drop place bytes ≡ text) where
    name_long : get_or bytes place 0 ≡ length e.name
    name_long =
        let same : place + 0 ≡ place = omega arith in
        ap (λ (k : ℕ). get_or bytes k 0) (sym same) ∙ sym (get_or-drop place bytes 0 0) ∙ ap (λ (l : List ℕ). get_or l 0 0) at

    behind_it : drop (place + 1) bytes ≡ e.name ++ rest
    behind_it = sym (drop-drop 1 place bytes) ∙ ap (drop 1) at

    pub taken : (take (get_or bytes place 0) (drop (place + 1) bytes) ≡ e.name) × (drop (get_or bytes place 0) (drop (place + 1) bytes) ≡ rest)
    taken = (rw (name_long, behind_it) (take_at e.name rest (length e.name) refl), rw (name_long, behind_it) (drop_at e.name rest (length e.name) refl))

    pub fits : get_or bytes place 0 ≤ length (drop (place + 1) bytes)
    fits = omega (arith, name_long, ap length behind_it, length-append e.name rest)
