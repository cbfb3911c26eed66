-- Contents that are written twice.
use Rattle.std.proofs.Common.{◌≡◌, ◌⊎◌, ◌<◌, ◌≤◌, ◌+◌, ◌-◌, ℕ, max, nat_lt, List, [], ◌∷◌, ◌++◌, length, get_or, inl, inr, refl, sym, ap, ◌∙◌, arith}
use Rattle.std.proofs.lemmas.Bool.{cases_Bool, ltb-true, ltb-false}
use Rattle.std.proofs.lemmas.List.{append-nil, drop_all, ext_get_or}
use Rattle.eden_model.specs.Operations.{written}
use Rattle.eden_model.specs.ChangeLaws.{DataIsWritten, OldBytesStay, WrittenLength}

-- written where nothing is
alone : (b : List ℕ) → written 0 b [] ≡ b
alone [] = refl
alone (y ∷ b) = ap (λ (l : List ℕ). (y ∷ b) ++ l) (drop_all (0 + length (y ∷ b)) [] (omega arith)) ∙ append-nil (y ∷ b)

pub by_order : (a b : ℕ) → (a < b) ⊎ (b ≤ a)
by_order a b = elim (cases_Bool (nat_lt a b)) [ inl e ↦ inl (ltb-true a b e) | inr e ↦ inr (ltb-false a b e) ]

module _ (put : DataIsWritten) (stay : OldBytesStay) (long : WrittenLength) where
  -- ---- two writes, the second into the first or at its end

  module _ (f g : ℕ) (a b c : List ℕ) (low : f ≤ g) (high : g ≤ f + length a) (some : 0 < length a) (more : 0 < length b) where
    abbrev both : List ℕ
    both = written (g - f) b a

    abbrev twice : List ℕ
    twice = written g b (written f a c)

    abbrev once : List ℕ
    once = written f both c

    both_length : length both ≡ max (length a) ((g - f) + length b)
    both_length = long (g - f) b a more

    join_length : length twice ≡ length once
    join_length =
        long g b (written f a c) more
        ∙ omega (arith, low, high, both_length, long f a c some, long f both c (omega (arith, both_length, some)))

    -- in the second
    in_second : (i : ℕ) → g ≤ i → i < g + length b → get_or twice i 0 ≡ get_or once i 0
    in_second i from to =
        put g i b (written f a c) from to
        ∙ ap (λ (k : ℕ). get_or b k 0) (omega (arith, low, from))
        ∙ sym (put (g - f) (i - f) b a (omega (arith, low, from)) (omega (arith, low, from, to)))
        ∙ sym (put f i both c (omega (arith, low, from)) (omega (arith, low, from, to, both_length)))

    -- .. before or behind it, in the first
    in_first : (i : ℕ) → f ≤ i → i < f + length a → (i < g) ⊎ (g + length b ≤ i) → get_or twice i 0 ≡ get_or once i 0
    in_first i from to (inl early) =
        stay g i b (written f a c) (inl early)
        ∙ put f i a c from to
        ∙ sym (stay (g - f) (i - f) b a (inl (omega (arith, low, from, early))))
        ∙ sym (put f i both c from (omega (arith, from, to, both_length)))
    in_first i from to (inr late) =
        stay g i b (written f a c) (inr late)
        ∙ put f i a c from to
        ∙ sym (stay (g - f) (i - f) b a (inr (omega (arith, low, from, late))))
        ∙ sym (put f i both c from (omega (arith, from, to, both_length)))

    before : (i : ℕ) → i < f → get_or twice i 0 ≡ get_or once i 0
    before i lt =
        stay g i b (written f a c) (inl (omega (arith, lt, low)))
        ∙ stay f i a c (inl lt)
        ∙ sym (stay f i both c (inl lt))

    behind : (i : ℕ) → f + length a ≤ i → g + length b ≤ i → get_or twice i 0 ≡ get_or once i 0
    behind i past le =
        stay g i b (written f a c) (inr le)
        ∙ stay f i a c (inr past)
        ∙ sym (stay f i both c (inr (omega (arith, past, le, low, both_length))))

    -- not in the second
    beside : (i : ℕ) → f ≤ i → (i < g) ⊎ (g + length b ≤ i) → get_or twice i 0 ≡ get_or once i 0
    beside i from (inl early) = in_first i from (omega (arith, early, high)) (inl early)
    beside i from (inr late) = elim (by_order i (f + length a)) [ inl to ↦ in_first i from to (inr late) | inr past ↦ behind i past late ]

    from_first : (i : ℕ) → f ≤ i → get_or twice i 0 ≡ get_or once i 0
    from_first i from = elim (by_order i g) [
      | inl early ↦ beside i from (inl early)
      | inr past ↦ elim (by_order i (g + length b)) [ inl to ↦ in_second i past to | inr late ↦ beside i from (inr late) ]
    ]

    joined : twice ≡ once
    joined = ext_get_or 0 twice once join_length (λ i lt. elim (by_order i f) [ inl early ↦ before i early | inr from ↦ from_first i from ])

  pub written_into : (f g : ℕ) (a b c : List ℕ) → f ≤ g → g ≤ f + length a → written g b (written f a c) ≡ written f (written (g - f) b a) c
  written_into f g a [] c low high = refl
  written_into f g [] (y ∷ b) c low high =
      let here : g ≡ f = omega (arith, low, high) in
      let none : g - f ≡ 0 = omega (arith, low, high) in
      ap (λ (k : ℕ). written k (y ∷ b) c) here
      ∙ ap (λ (l : List ℕ). written f l c) (sym (ap (λ (k : ℕ). written k (y ∷ b) []) none ∙ alone (y ∷ b)))
  written_into f g (x ∷ a) (y ∷ b) c low high = joined f g (x ∷ a) (y ∷ b) c low high (omega arith) (omega arith)

  -- ---- the same write twice

  module _ (f : ℕ) (a c : List ℕ) (some : 0 < length a) where
    again_length : length (written f a (written f a c)) ≡ length (written f a c)
    again_length = long f a (written f a c) some ∙ omega (arith, long f a c some)

    again_at : (i : ℕ) → get_or (written f a (written f a c)) i 0 ≡ get_or (written f a c) i 0
    again_at i = elim (by_order i f) [
      | inl early ↦ stay f i a (written f a c) (inl early)
      | inr from ↦ elim (by_order i (f + length a)) [
        | inl to ↦ put f i a (written f a c) from to ∙ sym (put f i a c from to)
        | inr past ↦ stay f i a (written f a c) (inr past)
      ]
    ]

    repeated : written f a (written f a c) ≡ written f a c
    repeated = ext_get_or 0 (written f a (written f a c)) (written f a c) again_length (λ i lt. again_at i)

  pub written_again : (f : ℕ) (a c : List ℕ) → written f a (written f a c) ≡ written f a c
  written_again f [] c = refl
  written_again f (x ∷ a) c = repeated f (x ∷ a) c (omega arith)
