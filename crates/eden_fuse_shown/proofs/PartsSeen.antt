-- Parts of a file and its length, with what waits for it.
use Rattle.std.proofs.Common.{◌≡◌, ◌<◌, ◌≤◌, ◌+◌, ◌-◌, ℕ, max, min, nat_le, nat_lt, ◌&&◌, List, [], ◌∷◌, length, take, get_or, inl, inr, refl, sym, ap, ◌∙◌, cond, Some, arith}
use Rattle.std.specs.Prelude.{drop}
use Rattle.std.proofs.lemmas.Bool.{cases_Bool, le-leb, lt-ltb, ltb-true, ltb-false}
use Rattle.std.proofs.lemmas.List.{drop_all, ext_get_or, get_or-drop, get_or-take, length-drop, length-take, take_all}
use Rattle.eden_model.specs.ChangeLaws.{DataIsWritten, OldBytesStay, WrittenLength}
use Rattle.eden_model.specs.Limits.{most_file}
use Rattle.eden_model.specs.Operations.{written}
use Rattle.eden_fuse_shown.specs.Waiting.{seen_length}
use Rattle.eden_fuse_shown.specs.Seeing.{LengthsAsSeen, PartsAsSeen}
use Rattle.eden_fuse_shown.proofs.Contents.{by_order}

-- the first bytes of contents that are alike so far
take_alike : (count : ℕ) (a b : List ℕ) → min count (length a) ≡ min count (length b) → ((i : ℕ) → i < count → get_or a i 0 ≡ get_or b i 0) → take count a ≡ take count b
take_alike count a b long alike =
    ext_get_or 0 (take count a) (take count b) (length-take count a ∙ long ∙ sym (length-take count b)) (λ i lt.
    let early : i < count = omega (arith, lt, length-take count a) in
    get_or-take count a i 0 early ∙ alike i early ∙ sym (get_or-take count b i 0 early))

-- of which no more are taken
take_again : (count : ℕ) (l : List ℕ) → take count (take count l) ≡ take count l
take_again count l = take_all count (take count l) (omega (arith, length-take count l))

module _ (put : DataIsWritten) (stay : OldBytesStay) (long : WrittenLength) (from count : ℕ) (c : List ℕ) where
  abbrev part : List ℕ
  part = take count (drop from c)

  part_at : (i : ℕ) → i < count → get_or part i 0 ≡ get_or c (from + i) 0
  part_at i lt = get_or-take count (drop from c) i 0 lt ∙ get_or-drop from c i 0

  part_length : length part ≡ min count (length c - from)
  part_length = length-take count (drop from c) ∙ ap (λ (n : ℕ). min count n) (length-drop from c)

  -- ---- bytes that begin in the part or behind it

  module _ (f : ℕ) (b : List ℕ) (le : from ≤ f) (some : 0 < length b) where
    behind_at : (i : ℕ) → i < count → get_or (written (f - from) b part) i 0 ≡ get_or (drop from (written f b c)) i 0
    behind_at i lt = elim (by_order i (f - from)) [
      | inl early ↦ stay (f - from) i b part (inl early) ∙ part_at i lt ∙ sym (stay f (from + i) b c (inl (omega (arith, early, le))))
          ∙ sym (get_or-drop from (written f b c) i 0)
      | inr past ↦ elim (by_order i (f - from + length b)) [
        | inl to ↦ put (f - from) i b part past to ∙ ap (λ (k : ℕ). get_or b k 0) (omega (arith, past, le))
            ∙ sym (put f (from + i) b c (omega (arith, past, le)) (omega (arith, to, le))) ∙ sym (get_or-drop from (written f b c) i 0)
        | inr late ↦ stay (f - from) i b part (inr late) ∙ part_at i lt ∙ sym (stay f (from + i) b c (inr (omega (arith, late, le))))
            ∙ sym (get_or-drop from (written f b c) i 0)
      ]
    ]

    behind_length : min count (length (written (f - from) b part)) ≡ min count (length (drop from (written f b c)))
    behind_length = omega (arith, le, long (f - from) b part some, part_length, length-drop from (written f b c), long f b c some)

  behind : (f : ℕ) (b : List ℕ) → from ≤ f → take count (written (f - from) b part) ≡ take count (drop from (written f b c))
  behind f [] le = take_again count (drop from c)
  behind f (y ∷ b) le = take_alike count (written (f - from) (y ∷ b) part) (drop from (written f (y ∷ b) c)) (behind_length f (y ∷ b) le (omega arith))
      (behind_at f (y ∷ b) le (omega arith))

  -- ---- .. before it

  module _ (f : ℕ) (b : List ℕ) (lt : f < from) (some : from - f < length b) where
    abbrev rest : List ℕ
    rest = drop (from - f) b

    rest_length : length rest ≡ length b - (from - f)
    rest_length = length-drop (from - f) b

    before_at : (i : ℕ) → i < count → get_or (written 0 rest part) i 0 ≡ get_or (drop from (written f b c)) i 0
    before_at i early = elim (by_order i (length rest)) [
      | inl to ↦ put 0 i rest part (omega arith) (omega (arith, to)) ∙ get_or-drop (from - f) b (i - 0) 0
          ∙ ap (λ (k : ℕ). get_or b k 0) (omega (arith, lt)) ∙ sym (put f (from + i) b c (omega (arith, lt)) (omega (arith, to, lt, some, rest_length)))
          ∙ sym (get_or-drop from (written f b c) i 0)
      | inr late ↦ stay 0 i rest part (inr (omega (arith, late))) ∙ part_at i early
          ∙ sym (stay f (from + i) b c (inr (omega (arith, late, lt, some, rest_length)))) ∙ sym (get_or-drop from (written f b c) i 0)
    ]

    before_length : min count (length (written 0 rest part)) ≡ min count (length (drop from (written f b c)))
    before_length = omega (
      arith,
      lt,
      some,
      rest_length,
      long 0 rest part (omega (arith, some, rest_length)),
      part_length,
      length-drop from (written f b c),
      long f b c (omega (arith, some)),
    )

    before_in : take count (written 0 rest part) ≡ take count (drop from (written f b c))
    before_in = take_alike count (written 0 rest part) (drop from (written f b c)) before_length before_at

  -- .. and end there
  module _ (f : ℕ) (b : List ℕ) (lt : f < from) (ends : length b ≤ from - f) (some : 0 < length b) where
    apart_at : (i : ℕ) → i < count → get_or part i 0 ≡ get_or (drop from (written f b c)) i 0
    apart_at i early = part_at i early ∙ sym (stay f (from + i) b c (inr (omega (arith, lt, ends)))) ∙ sym (get_or-drop from (written f b c) i 0)

    apart_length : min count (length part) ≡ min count (length (drop from (written f b c)))
    apart_length = omega (arith, lt, ends, part_length, length-drop from (written f b c), long f b c some)

  apart : (f : ℕ) (b : List ℕ) → f < from → length b ≤ from - f → take count part ≡ take count (drop from (written f b c))
  apart f [] lt ends = take_again count (drop from c)
  apart f (y ∷ b) lt ends = take_alike count part (drop from (written f (y ∷ b) c)) (apart_length f (y ∷ b) lt ends (omega arith))
      (apart_at f (y ∷ b) lt ends (omega arith))

  before : (f : ℕ) (b : List ℕ) → f < from → take count (written 0 (drop (from - f) b) part) ≡ take count (drop from (written f b c))
  before f b lt = elim (by_order (from - f) (length b)) [
    | inl some ↦ before_in f b lt some
    | inr ends ↦ ap (λ (l : List ℕ). take count (written 0 l part)) (drop_all (from - f) b ends) ∙ apart f b lt ends
  ]

pub parts_as_seen : DataIsWritten → OldBytesStay → WrittenLength → PartsAsSeen
parts_as_seen put stay long e c from count = elim (cases_Bool (nat_lt e.from from)) [
  | inl is ↦ ap (λ v. cond v (take count (written 0 (drop (from - e.from) e.bytes) (take count (drop from c)))) (take count (written (e.from - from) e.bytes (take count (drop from c))))) is
      ∙ before put stay long from count c e.from e.bytes (ltb-true e.from from is)
  | inr is ↦ ap (λ v. cond v (take count (written 0 (drop (from - e.from) e.bytes) (take count (drop from c)))) (take count (written (e.from - from) e.bytes (take count (drop from c))))) is
      ∙ behind put stay long from count c e.from e.bytes (ltb-false e.from from is)
]

lengths_by : WrittenLength → (from : ℕ) (b c : List ℕ) → from + length b ≤ most_file
    → seen_length (Some (record { from = from; bytes = b })) (length c) ≡ length (written from b c)
lengths_by long from [] c fits = refl
lengths_by long from (y ∷ b) c fits =
    ap (λ u. cond (u && nat_le (from + length (y ∷ b)) most_file) (max (length c) (from + length (y ∷ b))) (length c)) (lt-ltb 0 (length (y ∷ b)) (omega arith))
    ∙ ap (λ v. cond v (max (length c) (from + length (y ∷ b))) (length c)) (le-leb (from + length (y ∷ b)) most_file fits)
    ∙ sym (long from (y ∷ b) c (omega arith))

pub lengths_as_seen : WrittenLength → LengthsAsSeen
lengths_as_seen long e c fits = lengths_by long e.from e.bytes c fits
