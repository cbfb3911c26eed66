-- What a row of instructions makes, one instruction at a time.
use Rattle.std.proofs.Common.{◌≡◌, ◌≤◌, ◌+◌, ◌-◌, ◌∙◌, ℕ, List, [], ◌∷◌, ◌++◌, length, Some, None, refl, ap, sym, subst, append_assoc, append-nil, length-append, arith}
use Rattle.std.proofs.lemmas.Option.{same_Some}
use Rattle.eden_pack_format.specs.Deltas.{instruction, Makes, ends, adds}

nothing_here : (base : List ℕ) → instruction base [] ≡ None
unfolding instruction
nothing_here base = refl

-- the instructions made this much, and those that are left make the others
pub record Left (base rest done target : List ℕ) : Type 0 where
  pub more : List ℕ
  pub is : target ≡ done ++ more
  pub makes : Makes base rest more

pub all_left : (base text target : List ℕ) → Makes base text target → Left base text [] target
all_left base text target makes = record { more = target; is = refl; makes = makes }

-- one instruction more
pub made_more : (base all done rest piece next new : List ℕ) → ((t : List ℕ) → Makes base rest t → Makes base all (done ++ t)) → instruction base rest ≡ Some (piece, next) → new ≡ done ++ piece
    → (t : List ℕ) → Makes base next t → Makes base all (new ++ t)
made_more base all done rest piece next new so is grown t makes =
    let here : Makes base all (done ++ (piece ++ t)) = so (piece ++ t) (adds rest (piece ++ t) piece next t is refl makes) in
    let same : done ++ (piece ++ t) ≡ new ++ t = sym (append_assoc done piece t) ∙ ap (λ x. x ++ t) (sym grown) in
    subst (Makes base all) same here

-- no instruction more
pub made_end : (base all done rest : List ℕ) → ((t : List ℕ) → Makes base rest t → Makes base all (done ++ t)) → length rest ≡ 0 → Makes base all done
made_end base all done [] so e = subst (Makes base all) (append-nil done) (so [] (ends [] [] refl refl))
made_end base all done (x ∷ xs) so e = absurd (omega (arith, e))

-- what the first instruction makes comes first
pub left_after : (base rest piece next t : List ℕ) → instruction base rest ≡ Some (piece, next) → Makes base rest t → Left base next piece t
left_after base rest piece next t e (ends _ _ nothing _) =
    let none : instruction base rest ≡ None = ap (instruction base) nothing ∙ nothing_here base in
    cc
left_after base rest piece next t e (adds _ _ p r m i is makes) =
    let same : Some (p, r) ≡ Some (piece, next) = sym i ∙ e in
    let pair : (p, r) ≡ (piece, next) = same_Some (p, r) (piece, next) same in
    let first : p ≡ piece = ap (λ (x : List ℕ × List ℕ). x.0) pair in
    let second : r ≡ next = ap (λ (x : List ℕ × List ℕ). x.1) pair in
    record { more = m; is = is ∙ ap (λ x. x ++ m) first; makes = subst (λ x. Makes base x m) second makes }

pub left_more : (base rest done piece next new t : List ℕ) → instruction base rest ≡ Some (piece, next) → new ≡ done ++ piece → Left base rest done t → Left base next new t
left_more base rest done piece next new t e grown l =
    let k = left_after base rest piece next l.more e l.makes in
    let is : t ≡ new ++ k.more = l.is ∙ ap (λ x. done ++ x) k.is ∙ sym (append_assoc done piece k.more) ∙ ap (λ x. x ++ k.more) (sym grown) in
    record { more = k.more; is = is; makes = k.makes }

-- no instruction makes nothing
pub makes_nothing : (base rest t : List ℕ) → rest ≡ [] → Makes base rest t → t ≡ []
makes_nothing base rest t e (ends _ _ _ nothing) = nothing
makes_nothing base rest t e (adds _ _ p r m i is makes) =
    let none : instruction base rest ≡ None = ap (instruction base) e ∙ nothing_here base in
    cc

pub left_end : (base rest done t : List ℕ) → length rest ≡ 0 → Left base rest done t → length t ≡ length done
left_end base [] done t e l =
    let none : l.more ≡ [] = makes_nothing base [] l.more refl l.makes in
    ap length (l.is ∙ ap (λ x. done ++ x) none ∙ append-nil done)
left_end base (x ∷ xs) done t e l = absurd (omega (arith, e))

-- a piece that has room
pub fits : (done piece new : List ℕ) (size : ℕ) → new ≡ done ++ piece → length done ≤ size → length piece ≤ size - length done → length new ≤ size
fits done piece new size grown room short =
    let sum : length new ≡ length done + length piece = ap length grown ∙ length-append done piece in
    omega (arith, sum, room, short)
