-- A content that is written across a gap.
use Rattle.std.proofs.Common.{◌≡◌, ◌⊎◌, ◌<◌, ◌≤◌, ◌+◌, ◌-◌, ℕ, ◌&&◌, max, nat_le, nat_lt, Bool, true, false, cond, List, [], ◌∷◌, ◌++◌, length, take, drop, get_or, Option, Some, None}
use Rattle.std.proofs.Common.{append_assoc, length-append, replicate, inl, inr, refl, sym, ap, ◌∙◌, arith, Result, Ok, Err, OnOk}
use Rattle.std.proofs.lemmas.Bool.{cases_Bool, false≢true, ltb-true, ltb-false, leb-false, le-leb, le-ltb}
use Rattle.std.proofs.lemmas.List.{append-nil, drop_all, ext_get_or, take_all, get_or-drop, get_or-take, get_or_append_left, get_or-append_right}
use Rattle.eden_model.specs.Operations.{resized, written}
use Rattle.eden_model.specs.ChangeLaws.{DataIsWritten, OldBytesStay, WrittenLength, ResizedBytes, ResizedLength}
use Rattle.eden_fuse_shown.specs.declared.extents.Gap.{Gap}
use Rattle.eden_fuse_shown.specs.Waiting.{Extent, bridged, can_join, gap_at, joined}
use Rattle.eden_fuse_shown.proofs.Contents.{by_order, written_into}

module _ (put : DataIsWritten) (stay : OldBytesStay) (long : WrittenLength) (fill : ResizedBytes) (size : ResizedLength) where
  -- contents that differ at most where something is written over them
  written_alike : (o : ℕ) (b x y : List ℕ) → 0 < length b → max (length x) (o + length b) ≡ max (length y) (o + length b)
      → ((i : ℕ) → get_or x i 0 ≡ get_or y i 0) → written o b x ≡ written o b y
  written_alike o b x y some same alike = ext_get_or 0 (written o b x) (written o b y) (long o b x some ∙ same ∙ sym (long o b y some))
      (λ i lt. elim (by_order i o) [
        | inl early ↦ stay o i b x (inl early) ∙ alike i ∙ sym (stay o i b y (inl early))
        | inr from ↦ elim (by_order i (o + length b)) [
          | inl to ↦ put o i b x from to ∙ sym (put o i b y from to)
          | inr past ↦ stay o i b x (inr past) ∙ alike i ∙ sym (stay o i b y (inr past))
        ]
      ])

  -- what a content has from a place on, with zeros behind its end
  abbrev own : ℕ → ℕ → List ℕ → List ℕ
  own from count c = resized count (take count (drop from c))

  own_byte : (from count i : ℕ) (c : List ℕ) → i < count → get_or (own from count c) i 0 ≡ get_or c (from + i) 0
  own_byte from count i c lt = fill count i (take count (drop from c)) lt ∙ get_or-take count (drop from c) i 0 lt ∙ get_or-drop from c i 0

  module _ (f o : ℕ) (a b c : List ℕ) (more : 0 < length a) (some : 0 < length b) where
    abbrev first : List ℕ
    first = written f a c

    -- ---- in front

    module _ (low : o < f) where
      abbrev front : List ℕ
      front = own o (f - o) c

      front_length : length (front ++ a) ≡ (f - o) + length a
      front_length = length-append front a ∙ ap (λ (n : ℕ). n + length a) (size (f - o) (take (f - o) (drop o c)))

      front_byte : (i : ℕ) → o ≤ i → i < f → get_or (written o (front ++ a) c) i 0 ≡ get_or first i 0
      front_byte i from to =
          put o i (front ++ a) c from (omega (arith, front_length, to))
          ∙ get_or_append_left front a 0 (i - o) (omega (arith, size (f - o) (take (f - o) (drop o c)), from, to))
          ∙ own_byte o (f - o) (i - o) c (omega (arith, from, to))
          ∙ ap (λ (k : ℕ). get_or c k 0) (omega (arith, from))
          ∙ sym (stay f i a c (inl to))

      over_byte : (i : ℕ) → f ≤ i → i < f + length a → get_or (written o (front ++ a) c) i 0 ≡ get_or first i 0
      over_byte i from to =
          put o i (front ++ a) c (omega (arith, low, from)) (omega (arith, front_length, low, to))
          ∙ get_or-append_right front a (f - o) (i - o) 0 (size (f - o) (take (f - o) (drop o c))) (omega (arith, low, from))
          ∙ ap (λ (k : ℕ). get_or a k 0) (omega (arith, low, from))
          ∙ sym (put f i a c from to)

      front_alike : (i : ℕ) → get_or (written o (front ++ a) c) i 0 ≡ get_or first i 0
      front_alike i = elim (by_order i o) [
        | inl early ↦ stay o i (front ++ a) c (inl early) ∙ sym (stay f i a c (inl (omega (arith, low, early))))
        | inr from ↦ elim (by_order i f) [
          | inl to ↦ front_byte i from to
          | inr behind ↦ elim (by_order i (f + length a)) [
            | inl to ↦ over_byte i behind to
            | inr past ↦ stay o i (front ++ a) c (inr (omega (arith, front_length, low, past))) ∙ sym (stay f i a c (inr past))
          ]
        ]
      ]

      in_front : written o b (written o (front ++ a) c) ≡ written o b first
      in_front = written_alike o b (written o (front ++ a) c) first some
          (omega (arith, low, more, front_length, long o (front ++ a) c (omega (arith, front_length, more)), long f a c more)) front_alike

    -- ---- behind

    module _ (high : f + length a ≤ o) where
      abbrev gap : ℕ
      gap = o - (f + length a)

      abbrev rest : List ℕ
      rest = own (f + length a) gap c

      rest_length : length (a ++ rest) ≡ length a + gap
      rest_length = length-append a rest ∙ ap (λ (n : ℕ). length a + n) (size gap (take gap (drop (f + length a) c)))

      first_byte : (i : ℕ) → f ≤ i → i < f + length a → get_or (written f (a ++ rest) c) i 0 ≡ get_or first i 0
      first_byte i from to =
          put f i (a ++ rest) c from (omega (arith, rest_length, to))
          ∙ get_or_append_left a rest 0 (i - f) (omega (arith, from, to))
          ∙ sym (put f i a c from to)

      rest_byte : (i : ℕ) → f + length a ≤ i → i < o → get_or (written f (a ++ rest) c) i 0 ≡ get_or first i 0
      rest_byte i from to =
          put f i (a ++ rest) c (omega (arith, from)) (omega (arith, rest_length, high, to))
          ∙ get_or-append_right a rest (length a) (i - f) 0 refl (omega (arith, from))
          ∙ own_byte (f + length a) gap ((i - f) - length a) c (omega (arith, from, to))
          ∙ ap (λ (k : ℕ). get_or c k 0) (omega (arith, from))
          ∙ sym (stay f i a c (inr from))

      rest_alike : (i : ℕ) → get_or (written f (a ++ rest) c) i 0 ≡ get_or first i 0
      rest_alike i = elim (by_order i f) [
        | inl early ↦ stay f i (a ++ rest) c (inl early) ∙ sym (stay f i a c (inl early))
        | inr from ↦ elim (by_order i (f + length a)) [
          | inl to ↦ first_byte i from to
          | inr behind ↦ elim (by_order i o) [
            | inl to ↦ rest_byte i behind to
            | inr past ↦ stay f i (a ++ rest) c (inr (omega (arith, rest_length, high, past))) ∙ sym (stay f i a c (inr behind))
          ]
        ]
      ]

      behind : written o b (written f (a ++ rest) c) ≡ written o b first
      behind = written_alike o b (written f (a ++ rest) c) first some
          (omega (arith, high, more, rest_length, some, long f (a ++ rest) c (omega (arith, rest_length, more)), long f a c more)) rest_alike

    -- ---- either

    abbrev gap_by : Bool → Gap
    gap_by v = cond v (record { from = o; len = f - o }) (record { from = f + length a; len = o - (f + length a) })

    abbrev between : Bool → List ℕ
    between v = take (gap_by v).len (drop (gap_by v).from c)

    abbrev filled : Bool → Extent
    filled v =
        cond v (record { from = o; bytes = resized (f - o) (between v) ++ a })
        (record { from = f; bytes = a ++ resized (o - (f + length a)) (between v) })

    pub by_side : (v : Bool) → (v ≡ true → o < f) → (v ≡ false → f + length a ≤ o)
        → written (filled v).from (written (o - (filled v).from) b (filled v).bytes) c ≡ written o b first
    by_side true low high =
        sym (written_into put stay long o o (front (low refl) ++ a) b c (omega arith) (omega arith)) ∙ in_front (low refl)
    by_side false low high =
        sym (written_into put stay long f o (a ++ rest (high refl)) b c (omega (arith, high refl)) (omega (arith, high refl, rest_length (high refl))))
        ∙ behind (high refl)

  apart : (e : Extent) (o : ℕ) → can_join (Some e) o ≡ false → nat_lt o e.from ≡ false → e.from + length e.bytes ≤ o
  apart e o joins_not low_not = elim (cases_Bool (nat_le o (e.from + length e.bytes))) [
    | inl to ↦
        absurd (false≢true (sym joins_not
        ∙ ap (λ (v : Bool). v && nat_le o (e.from + length e.bytes)) (le-leb e.from o (ltb-false o e.from low_not)) ∙ to))
    | inr past ↦ omega (arith, leb-false o (e.from + length e.bytes) past)
  ]

  -- bytes that don't join what waits, with what the content has between
  pub bridged_content : (e : Extent) (o : ℕ) (b c between : List ℕ) → can_join (Some e) o ≡ false → 0 < length e.bytes → 0 < length b
      → between ≡ take (gap_at e o).len (drop (gap_at e o).from c)
      → written (joined (Some (bridged e o between)) o b).from (joined (Some (bridged e o between)) o b).bytes c ≡ written o b (written e.from e.bytes c)
  bridged_content e o b c between joins_not more some is =
      ap (λ (l : List ℕ). written (joined (Some (bridged e o l)) o b).from (joined (Some (bridged e o l)) o b).bytes c) is
      ∙ by_side e.from o e.bytes b c more some (nat_lt o e.from) (ltb-true o e.from) (apart e o joins_not)

-- ---- what is written where a content ends

behind_all : (n : ℕ) (b x : List ℕ) → n ≡ length x → resized n x ++ (b ++ drop (n + length b) x) ≡ x ++ b
behind_all n b x is =
    let none : n - length x ≡ 0 = omega (arith, is) in
    let cut : resized n x ≡ x =
    ap (λ (k : ℕ). take n x ++ replicate k 0) none ∙ append-nil (take n x) ∙ take_all n x (omega (arith, is)) in
    ap (λ (l : List ℕ). l ++ (b ++ drop (n + length b) x)) cut
    ∙ ap (λ (l : List ℕ). x ++ (b ++ l)) (drop_all (n + length b) x (omega (arith, is)))
    ∙ ap (λ (l : List ℕ). x ++ l) (append-nil b)

at_end : (x b : List ℕ) (n : ℕ) → n ≡ length x → written n b x ≡ x ++ b
at_end x [] n is = sym (append-nil x)
at_end x (y ∷ b) n is = append_assoc (resized n x) (y ∷ b) (drop (n + length (y ∷ b)) x) ∙ behind_all n (y ∷ b) x is

abbrev pub extent : ℕ → List ℕ → Extent
extent from bytes = record { from = from; bytes = bytes }

abbrev lying : ℕ → ℕ → Gap
lying from len = record { from = from; len = len }

-- what lies between, and what is written behind that
module _ (size : ResizedLength) (e : Extent) (from : ℕ) (between b : List ℕ) (behind : e.from + length e.bytes ≤ from) where
  abbrev len : Bool → ℕ
  len v = (cond v (lying from (e.from - from)) (lying (e.from + length e.bytes) (from - (e.from + length e.bytes)))).len

  abbrev over : Bool → Extent
  over v =
      cond v (extent from (resized (e.from - from) between ++ e.bytes))
      (extent e.from (e.bytes ++ resized (from - (e.from + length e.bytes)) between))

  filled_length : length (over false).bytes ≡ from - e.from
  filled_length = length-append e.bytes (resized (len false) between) ∙ omega (arith, size (len false) between, behind)

  by_test : (v : Bool) → v ≡ false → extent e.from (written (length e.bytes) (resized (len v) between ++ b) e.bytes)
      ≡ extent (over v).from (written (from - (over v).from) b (over v).bytes)
  by_test true h = absurd (false≢true (sym h))
  by_test false h = ap (λ (l : List ℕ). extent e.from l)
      (at_end e.bytes (resized (len false) between ++ b) (length e.bytes) refl
      ∙ sym (append_assoc e.bytes (resized (len false) between) b)
      ∙ sym (at_end (over false).bytes b (from - e.from) (sym filled_length)))

  gone_on : extent e.from (written (length e.bytes) (resized (gap_at e from).len between ++ b) e.bytes) ≡ joined (Some (bridged e from between)) from b
  gone_on = by_test (nat_lt from e.from) (le-ltb from e.from (omega (arith, behind)))

  pub gone_on_if : {V E : Type 0} (r : Result V E) (n : ℕ) (all new : List ℕ) → OnOk r (new ≡ written n all e.bytes) → n ≡ length e.bytes
      → all ≡ resized (gap_at e from).len between ++ b → OnOk r (extent e.from new ≡ joined (Some (bridged e from between)) from b)
  gone_on_if (Ok v) n all new is at filled =
      ap (λ (l : List ℕ). extent e.from l)
      (is ∙ ap (λ (k : ℕ). written k all e.bytes) at ∙ ap (λ (l : List ℕ). written (length e.bytes) l e.bytes) filled)
      ∙ gone_on
  gone_on_if (Err x) n all new is at filled = tt
