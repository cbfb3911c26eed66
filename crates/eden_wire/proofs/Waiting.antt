-- Lemmas on the bytes of the room in which pieces are read.
use Rattle.std.proofs.Common.{◌≡◌, ℕ, zero, suc, ◌+◌, ◌-◌, ◌≤◌, List, [], ◌∷◌, ◌++◌, take, drop, length, length-take-le, length-take, length-drop, sym, ap, ◌∙◌, subst, arith}
use Rattle.std.specs.Prelude.{slice_range}
use borrow.Rule.Slice.PartMut.{put_mid, post_of}
use Rattle.std.proofs.lemmas.List.{take_all, take-append-le, drop-append-le, drop-drop, drop-take}
use Rattle.eden_wire.proofs.Slices.{take_front}

take_past : (xs ys : List ℕ) (n k : ℕ) → k ≡ length xs + n → take k (xs ++ ys) ≡ xs ++ take n ys
take_past [] ys n k e = ap (λ j. take j ys) (omega arith)
take_past (x ∷ xs) ys n zero e = absurd (omega arith)
take_past (x ∷ xs) ys n (suc k) e = ap (λ l. x ∷ l) (take_past xs ys n k (omega arith))

-- something stands behind them
pub more_behind : (xs ys : List ℕ) (s e : ℕ) → s ≤ e → e ≤ length xs → slice_range (xs ++ ys) s e ≡ slice_range xs s e
more_behind xs ys s e ordered within =
    ap (take (e - s)) (drop-append-le s xs ys (omega arith)) ∙ take-append-le (e - s) (drop s xs) ys (omega (arith, length-drop s xs))

-- the front of what was read behind them
pub piece_behind : (xs buf tail : List ℕ) (s e n : ℕ) → s ≤ e → e ≤ length xs → n ≤ length buf
    → slice_range (take e xs ++ (buf ++ tail)) s (e + n) ≡ slice_range xs s e ++ take n buf
piece_behind xs buf tail s e n ordered within some =
    let front = length-take-le e xs within in
    let here : drop s (take e xs) ≡ slice_range xs s e = ap (λ k. drop s (take k xs)) (omega arith) ∙ drop-take s (e - s) xs in
    let size : length (slice_range xs s e) ≡ e - s = length-take-le (e - s) (drop s xs) (omega (arith, length-drop s xs)) in
    let count : e + n - s ≡ length (slice_range xs s e) + n = omega (arith, size) in
    ap (take (e + n - s)) (drop-append-le s (take e xs) (buf ++ tail) (omega (arith, front)) ∙ ap (λ l. l ++ (buf ++ tail)) here)
    ∙ take_past (slice_range xs s e) (buf ++ tail) n _ count
    ∙ ap (λ l. slice_range xs s e ++ l) (take-append-le n buf tail some)

-- without the first of them
pub fewer : (xs : List ℕ) (s e n : ℕ) → s + n ≤ e → slice_range xs (s + n) e ≡ drop n (slice_range xs s e)
fewer xs s e n within =
    let count : e - s ≡ n + (e - (s + n)) = omega arith in
    sym (ap (λ k. drop n (take k (drop s xs))) count ∙ drop-take n (e - (s + n)) (drop s xs) ∙ ap (take (e - (s + n))) (drop-drop n s xs))

cut_at : (xs : List ℕ) (s e : ℕ) → s ≤ e → slice_range (take e xs) s e ≡ slice_range xs s e
cut_at xs s e ordered =
    let here : drop s (take e xs) ≡ take (e - s) (drop s xs) = ap (λ k. drop s (take k xs)) (omega arith) ∙ drop-take s (e - s) xs in
    ap (take (e - s)) here ∙ take_all (e - s) (take (e - s) (drop s xs)) (omega (arith, length-take (e - s) (drop s xs)))

more_at_end : (old buf : List ℕ) (s e k : ℕ) → s ≤ e → e ≤ length old → slice_range (put_mid e k old buf) s e ≡ slice_range old s e
more_at_end old buf s e k ordered within =
    let front = length-take-le e old within in
    more_behind (take e old) (buf ++ post_of e k old) s e ordered (omega (arith, front)) ∙ cut_at old s e ordered

-- room into which a piece was read behind them, as the whole room has it
pub read_behind : (xs old buf more : List ℕ) (len s e k n : ℕ) → old ≡ xs → len ≡ length (put_mid e k old buf) → s ≤ e → e ≤ length xs → n ≤ length buf
    → slice_range (take len (put_mid e k old buf ++ more)) s (e + n) ≡ slice_range xs s e ++ take n buf
read_behind xs old buf more len s e k n same whole ordered within some =
    ap (λ l. slice_range l s (e + n)) (take_front (put_mid e k old buf) more len whole)
    ∙ piece_behind old buf (post_of e k old) s e n ordered (subst (λ l. e ≤ length l) (sym same) within) some
    ∙ ap (λ l. slice_range l s e ++ take n buf) same

pub unread_behind : (xs old buf more : List ℕ) (len s e k : ℕ) → old ≡ xs → len ≡ length (put_mid e k old buf) → s ≤ e → e ≤ length xs
    → slice_range (take len (put_mid e k old buf ++ more)) s e ≡ slice_range xs s e
unread_behind xs old buf more len s e k same whole ordered within =
    ap (λ l. slice_range l s e) (take_front (put_mid e k old buf) more len whole)
    ∙ more_at_end old buf s e k ordered (subst (λ l. e ≤ length l) (sym same) within) ∙ ap (λ l. slice_range l s e) same
