-- The bytes of a content that is written or resized.
use Rattle.std.proofs.Common.{◌≡◌, ◌<◌, ◌≤◌, ◌+◌, ◌-◌, ◌⊎◌, ℕ, max, List, [], ◌∷◌, ◌++◌, length, take, drop, get_or, replicate, nat_lt, sym, refl, ◌∙◌, ap, inl, inr, append_assoc, arith}
use Rattle.std.proofs.Common.{length-append, length-drop}
use Rattle.std.proofs.lemmas.Bool.{cases_Bool, ltb-true, ltb-false}
use Rattle.std.proofs.lemmas.List.{length-take, length-replicate, get_or_append_left, get_or-append_right, get_or-take, get_or-drop, get_or_past, get_or-replicate}
use Rattle.eden_model.specs.Operations.{resized}
use Rattle.eden_model.specs.ChangeLaws.{DataIsWritten, OldBytesStay, WrittenLength, ResizedBytes, ResizedLength}

by_order : (a b : ℕ) → (a < b) ⊎ (b ≤ a)
by_order a b = elim (cases_Bool (nat_lt a b)) [ inl e ↦ inl (ltb-true a b e) | inr e ↦ inr (ltb-false a b e) ]

pub resized_length : ResizedLength
resized_length size old = length-append (take size old) (replicate (size - length old) 0) ∙ omega (arith, length-take size old, length-replicate {A = ℕ} (size - length old) 0)

alike : (n i d : ℕ) → get_or (replicate n d) i d ≡ d
alike n i d = elim (by_order i n) [
  | inl lt ↦ get_or-replicate n i d d lt
  | inr le ↦ get_or_past (replicate n d) i d (omega (arith, length-replicate n d, le))
]

pub resized_bytes : ResizedBytes
resized_bytes size i old lt = elim (by_order i (length old)) [
  | inl inside ↦ get_or_append_left (take size old) (replicate (size - length old) 0) 0 i (omega (arith, length-take size old, inside, lt)) ∙ get_or-take size old i 0 lt
  | inr past ↦
      get_or-append_right (take size old) (replicate (size - length old) 0) (length (take size old)) i 0 refl (omega (arith, length-take size old, past, lt))
      ∙ alike (size - length old) (i - length (take size old)) 0 ∙ sym (get_or_past old i 0 past)
]

module _ (offset : ℕ) (bytes old : List ℕ) where
  abbrev rest : List ℕ
  rest = drop (offset + length bytes) old

  in_data : (i : ℕ) → offset ≤ i → i < offset + length bytes → get_or (resized offset old ++ (bytes ++ rest)) i 0 ≡ get_or bytes (i - offset) 0
  in_data i from to =
      get_or-append_right (resized offset old) (bytes ++ rest) offset i 0 (resized_length offset old) from
      ∙ get_or_append_left bytes rest 0 (i - offset) (omega (arith, from, to))

  before_data : (i : ℕ) → i < offset → get_or (resized offset old ++ (bytes ++ rest)) i 0 ≡ get_or old i 0
  before_data i lt =
      get_or_append_left (resized offset old) (bytes ++ rest) 0 i (omega (arith, resized_length offset old, lt)) ∙ resized_bytes offset i old lt

  behind_data : (i : ℕ) → offset + length bytes ≤ i → get_or (resized offset old ++ (bytes ++ rest)) i 0 ≡ get_or old i 0
  behind_data i le =
      get_or-append_right (resized offset old) (bytes ++ rest) offset i 0 (resized_length offset old) (omega (arith, le))
      ∙ get_or-append_right bytes rest (length bytes) (i - offset) 0 refl (omega (arith, le))
      ∙ get_or-drop (offset + length bytes) old (i - offset - length bytes) 0
      ∙ ap (λ (k : ℕ). get_or old k 0) (omega (arith, le))

  whole_length : length (resized offset old ++ (bytes ++ rest)) ≡ max (length old) (offset + length bytes)
  whole_length =
      length-append (resized offset old) (bytes ++ rest)
      ∙ omega (arith, resized_length offset old, length-append bytes rest, length-drop (offset + length bytes) old)

pub data_is_written : DataIsWritten
data_is_written offset i [] old from to = absurd (omega (arith, from, to))
data_is_written offset i (b ∷ bytes) old from to = ap (λ (xs : List ℕ). get_or xs i 0) (append_assoc (resized offset old) (b ∷ bytes) (rest offset (b ∷ bytes) old)) ∙ in_data offset
    (b ∷ bytes) old i from to

pub old_bytes_stay : OldBytesStay
old_bytes_stay offset i [] old where_it_is = refl
old_bytes_stay offset i (b ∷ bytes) old where_it_is =
    ap (λ (xs : List ℕ). get_or xs i 0) (append_assoc (resized offset old) (b ∷ bytes) (rest offset (b ∷ bytes) old))
    ∙ elim where_it_is [ inl lt ↦ before_data offset (b ∷ bytes) old i lt | inr le ↦ behind_data offset (b ∷ bytes) old i le ]

pub written_length : WrittenLength
written_length offset [] old some = absurd (omega (arith, some))
written_length offset (b ∷ bytes) old some = ap length (append_assoc (resized offset old) (b ∷ bytes) (rest offset (b ∷ bytes) old)) ∙ whole_length offset (b ∷ bytes) old
