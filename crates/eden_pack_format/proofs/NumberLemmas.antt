-- The groups of a number, one at a time.
use Rattle.std.proofs.Common.{◌≡◌, ◌<◌, ◌≤◌, ◌+◌, ◌-◌, ◌*◌, ◌%◌, ◌^◌, ◌∙◌, ℕ, suc, List, [], ◌∷◌, length, Some, None, refl, sym, ap, arith}
use Rattle.std.proofs.Math.Nat.{pow-succ', pow-le-pow_right, mul-le-mul_left}
use Rattle.std.proofs.lemmas.Bool.{lt-ltb, le-ltb}
use Rattle.eden_pack_format.specs.Numbers.{groups, back}

pub groups-over : (number worth : ℕ) (bytes : List ℕ) → groups 0 number worth bytes ≡ None
unfolding groups
groups-over number worth bytes = refl

pub groups-none : (most number worth : ℕ) → groups (suc most) number worth [] ≡ None
unfolding groups
groups-none most number worth = refl

pub groups-last : (most number worth b : ℕ) (bytes : List ℕ) → b < 128 → groups (suc most) number worth (b ∷ bytes) ≡ Some (number + worth * b, bytes)
unfolding groups
groups-last most number worth b bytes last = rw (lt-ltb b 128 last) refl

pub groups-more : (most number worth b : ℕ) (bytes : List ℕ) → 128 ≤ b → groups (suc most) number worth (b ∷ bytes) ≡ groups most (number + worth * (b % 128)) (worth * 128) bytes
unfolding groups
groups-more most number worth b bytes more = rw (le-ltb b 128 more) refl

pub back-over : (number : ℕ) (bytes : List ℕ) → back 0 number bytes ≡ None
unfolding back
back-over number bytes = refl

pub back-none : (most number : ℕ) → back (suc most) number [] ≡ None
unfolding back
back-none most number = refl

pub back-last : (most number b : ℕ) (bytes : List ℕ) → b < 128 → back (suc most) number (b ∷ bytes) ≡ Some (128 * number + b, bytes)
unfolding back
back-last most number b bytes last = rw (lt-ltb b 128 last) refl

pub back-more : (most number b : ℕ) (bytes : List ℕ) → 128 ≤ b → back (suc most) number (b ∷ bytes) ≡ back most (128 * number + b % 128 + 1) bytes
unfolding back
back-more most number b bytes more = rw (le-ltb b 128 more) refl

-- ---- a number that is read in a loop: what its first groups were doesn't matter

abbrev pub Reads : ℕ → ℕ → ℕ → List ℕ → List ℕ → Type 0
Reads done number worth rest bytes = (left : ℕ) → left + done ≡ 8 → groups left number worth rest ≡ groups 8 0 1 bytes

pub reads-begin : (bytes : List ℕ) → Reads 0 0 1 bytes bytes
reads-begin bytes left e =
    let all : left ≡ 8 = omega (arith, e) in
    ap (λ m. groups m 0 1 bytes) all

pub reads-end : (done number worth : ℕ) (rest bytes : List ℕ) → Reads done number worth rest bytes → done < 8 → length rest ≡ 0 → groups 8 0 1 bytes ≡ None
reads-end done number worth [] bytes same more e = sym (same (suc (7 - done)) (omega (arith, more))) ∙ groups-none (7 - done) number worth
reads-end done number worth (x ∷ xs) bytes same more e = absurd (omega (arith, e))

pub reads-last : (done number worth b : ℕ) (rest after bytes : List ℕ) → Reads done number worth rest bytes → done < 8 → rest ≡ b ∷ after → b < 128
    → groups 8 0 1 bytes ≡ Some (number + worth * b, after)
reads-last done number worth b rest after bytes same more is last =
    let m : ℕ = 7 - done in
    let count : suc m + done ≡ 8 = omega (arith, more) in
    sym (same (suc m) count) ∙ ap (groups (suc m) number worth) is ∙ groups-last m number worth b after last

pub reads-more : (done number worth b : ℕ) (rest after bytes : List ℕ) → Reads done number worth rest bytes → rest ≡ b ∷ after → 128 ≤ b
    → Reads (done + 1) (number + worth * (b % 128)) (worth * 128) after bytes
reads-more done number worth b rest after bytes same is more left e =
    sym (groups-more left number worth b after more) ∙ ap (groups (suc left) number worth) (sym is) ∙ same (suc left) (omega (arith, e))

pub reads-over : (done number worth : ℕ) (rest bytes : List ℕ) → Reads done number worth rest bytes → done ≡ 8 → groups 8 0 1 bytes ≡ None
reads-over done number worth rest bytes same e = sym (same 0 (omega (arith, e))) ∙ groups-over number worth rest

-- ---- the worth of a group, which stays small

pub worth-next : (n : ℕ) → 128 ^ (n + 1) ≡ 128 ^ n * 128
worth-next n =
    let e : n + 1 ≡ suc n = omega arith in
    let next : 128 ^ (n + 1) ≡ 128 * 128 ^ n = ap (λ k. 128 ^ k) e ∙ pow-succ' 128 n in
    omega (arith, next)

pub worth-most : (n : ℕ) → n < 8 → 128 ^ n ≤ 562949953421312
worth-most n h =
    let last : 128 ^ 7 ≡ 562949953421312 = refl in
    let some : 0 < 128 = omega arith in
    let most : 128 ^ n ≤ 128 ^ 7 = pow-le-pow_right some {i = n} {j = 7} (omega (arith, h)) in
    omega (arith, most, last)

pub product-most : (worth b most : ℕ) → b ≤ most → worth * b ≤ worth * most
product-most worth b most h = mul-le-mul_left worth h

-- ---- how far back a base begins, read in the same way

abbrev pub ReadsBack : ℕ → ℕ → List ℕ → List ℕ → Type 0
ReadsBack done number rest bytes = (left : ℕ) → left + done ≡ 8 → back left number rest ≡ back 8 0 bytes

pub back-begin : (bytes : List ℕ) → ReadsBack 0 0 bytes bytes
back-begin bytes left e =
    let all : left ≡ 8 = omega (arith, e) in
    ap (λ m. back m 0 bytes) all

pub back-end : (done number : ℕ) (rest bytes : List ℕ) → ReadsBack done number rest bytes → done < 8 → length rest ≡ 0 → back 8 0 bytes ≡ None
back-end done number [] bytes same more e = sym (same (suc (7 - done)) (omega (arith, more))) ∙ back-none (7 - done) number
back-end done number (x ∷ xs) bytes same more e = absurd (omega (arith, e))

pub back-found : (done number b : ℕ) (rest after bytes : List ℕ) → ReadsBack done number rest bytes → done < 8 → rest ≡ b ∷ after → b < 128 → back 8 0 bytes ≡ Some (128 * number + b, after)
back-found done number b rest after bytes same more is last =
    let m : ℕ = 7 - done in
    let count : suc m + done ≡ 8 = omega (arith, more) in
    sym (same (suc m) count) ∙ ap (back (suc m) number) is ∙ back-last m number b after last

pub back-next : (done number b : ℕ) (rest after bytes : List ℕ) → ReadsBack done number rest bytes → rest ≡ b ∷ after → 128 ≤ b → ReadsBack (done + 1) (128 * number + b % 128 + 1) after bytes
back-next done number b rest after bytes same is more left e = sym (back-more left number b after more) ∙ ap (back (suc left) number) (sym is) ∙ same (suc left) (omega (arith, e))

pub back-done : (done number : ℕ) (rest bytes : List ℕ) → ReadsBack done number rest bytes → done ≡ 8 → back 8 0 bytes ≡ None
back-done done number rest bytes same e = sym (same 0 (omega (arith, e))) ∙ back-over number rest
