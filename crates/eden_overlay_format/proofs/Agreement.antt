-- Reading and writing agree, field by field.
use Rattle.std.proofs.Common.{◌≡◌, ℕ, zero, suc, ◌^◌, ◌<◌, Bool, true, false, ◌&&◌, leb, List, ◌++◌, length, get_or, take, drop, Option, Some, None, refl, sym, ap, subst, ◌∙◌, arith, inl, inr}
use Rattle.std.specs.Option.{option_and_then}
use Rattle.std.specs.Int.{Width, w32, w64, byte_at, byte_len, from_be_bytes, to_be_bytes}
use Rattle.std.specs.Str.{bytes_eq}
use Rattle.std.proofs.lemmas.Bool.{leb-true, le-leb, cases_lt}
use Rattle.std.proofs.lemmas.List.{take_at, drop_at, take-append-drop, length-append, length-take, get_or-take, get_or_past}
use Rattle.std.proofs.lemmas.Nat.{from_be_bytes-to_be_bytes_4, from_be_bytes-to_be_bytes_8}
use Rattle.std.proofs.lemmas.Option.{cond_some, same_Some, option_and_then_some}
use Rattle.std.proofs.lemmas.Slice.Eq.{bytes_eq-Decides}
use Rattle.eden_overlay_format.specs.Reading.{◌>>=◌, Field, bytes_at, number_at}

-- so much of the bytes was read: what a good value is written as stands before what is left
pub record IsRead {A : Type 0} (write : A → List ℕ) (Good : A → Type 0) (bytes : List ℕ) (x : A × List ℕ) : Type 0 where
  pub front : bytes ≡ write x.0 ++ x.1
  pub good : Good x.0

-- a reader that finds each good value as it is written, and nothing else
pub record Agrees {A : Type 0} (read : List ℕ → Field A) (write : A → List ℕ) (Good : A → Type 0) : Type 0 where
  pub only : (bytes : List ℕ) (x : A × List ℕ) → read bytes ≡ Some x → IsRead write Good bytes x
  pub again : (a : A) (rest : List ℕ) → Good a → read (write a ++ rest) ≡ Some (a, rest)

pub is_read : {A : Type 0} (write : A → List ℕ) (Good : A → Type 0) (bytes : List ℕ) (x y : A × List ℕ) → IsRead write Good bytes x → Some x ≡ Some y → IsRead write Good bytes y
is_read write Good bytes x y h e = subst (IsRead write Good bytes) (same_Some x y e) h

-- a step whose value is known
pub step : {A B : Type 0} (o : Option A) (f : A → Option B) (x : A) → o ≡ Some x → (o >>= f) ≡ f x
step o f x e = ap (option_and_then f) e

pub both : (a b : Bool) → (a && b) ≡ true → (a ≡ true) × (b ≡ true)
both true b e = (refl, e)
both false b e = absurd cc

-- ---- so many bytes

pub bytes_agree : (n : ℕ) → Agrees (bytes_at n) (λ text. text) (λ text. length text ≡ n)
bytes_agree n = record {
  only = λ bytes x e.
      let found = cond_some (leb n (length bytes)) (take n bytes, drop n bytes) x e in
      let long = leb-true n (length bytes) found.0 in
      let front : IsRead (λ text. text) (λ text. length text ≡ n) bytes (take n bytes, drop n bytes) = record { front = sym (take-append-drop n bytes); good = omega (arith, length-take n bytes) } in
      subst (IsRead (λ text. text) (λ text. length text ≡ n) bytes) found.1 front;
  again = λ text rest len.
      let long : leb n (length (text ++ rest)) ≡ true = le-leb _ _ (omega (arith, length-append text rest)) in
      rw (long, take_at text rest n len, drop_at text rest n len) refl;
}

-- ---- numbers

-- below the limit a number's digits tell it, and no digits tell another
record HasLimit (w : Width) (limit : ℕ) : Type 0 where
  long : (n : ℕ) → length (to_be_bytes w n) ≡ byte_len w
  told : (n : ℕ) → n < limit → from_be_bytes w (to_be_bytes w n) ≡ n
  below : (n : ℕ) → from_be_bytes w (to_be_bytes w n) < limit

byte : (i n : ℕ) → byte_at i n < 256
byte zero n = omega arith
byte (suc i) n = omega arith

limit32 : HasLimit w32 (2 ^ 32)
limit32 = record {
  long = λ n. refl;
  told = λ n lt. from_be_bytes-to_be_bytes_4 n lt;
  below = λ n. omega (arith, byte 0 n, byte 1 n, byte 2 n, byte 3 n);
}

limit64 : HasLimit w64 (2 ^ 64)
limit64 = record {
  long = λ n. refl;
  told = λ n lt. from_be_bytes-to_be_bytes_8 n lt;
  below = λ n. omega (arith, byte 0 n, byte 1 n, byte 2 n, byte 3 n, byte 4 n, byte 5 n, byte 6 n, byte 7 n);
}

numbers : (w : Width) (limit : ℕ) → HasLimit w limit → Agrees (number_at w) (to_be_bytes w) (λ n. n < limit)
unfolding number_at
numbers w limit h = record {
  only = λ bytes x e. option_and_then_some _ (bytes_at (byte_len w) bytes) x e (λ digits there then.
      let n : ℕ = from_be_bytes w digits.0 in
      let found = cond_some (bytes_eq (to_be_bytes w n) digits.0) (n, digits.1) x then in
      let same : to_be_bytes w n ≡ digits.0 = (bytes_eq-Decides (to_be_bytes w n) digits.0).0 found.0 in
      let read = (bytes_agree (byte_len w)).only bytes digits there in
      let front : bytes ≡ to_be_bytes w n ++ digits.1 = rw same read.front in
      let below : n < limit = subst (λ (m : ℕ). m < limit) (ap (from_be_bytes w) same) (h.below n) in
      subst (IsRead (to_be_bytes w) (λ n. n < limit) bytes) found.1 (record { front = front; good = below }));
  again = λ n rest lt.
      let told = h.told n lt in
      let same : bytes_eq (to_be_bytes w (from_be_bytes w (to_be_bytes w n))) (to_be_bytes w n) ≡ true = (bytes_eq-Decides _ _).1 (ap (to_be_bytes w) told) in
      step (bytes_at (byte_len w) (to_be_bytes w n ++ rest)) _ (to_be_bytes w n, rest) ((bytes_agree (byte_len w)).again (to_be_bytes w n) rest (h.long n)) ∙ rw (same, told) refl;
}

pub numbers32 : Agrees (number_at w32) (to_be_bytes w32) (λ n. n < 2 ^ 32)
numbers32 = numbers w32 (2 ^ 32) limit32

pub numbers64 : Agrees (number_at w64) (to_be_bytes w64) (λ n. n < 2 ^ 64)
numbers64 = numbers w64 (2 ^ 64) limit64

-- the digits that stand there tell a number, where they are bytes
pub digits_told : (w : Width) (bytes digits rest : List ℕ) → bytes_at (byte_len w) bytes ≡ Some (digits, rest) → to_be_bytes w (from_be_bytes w digits) ≡ digits
    → number_at w bytes ≡ Some (from_be_bytes w digits, rest)
unfolding number_at
digits_told w bytes digits rest e same =
    let passes : bytes_eq (to_be_bytes w (from_be_bytes w digits)) digits ≡ true = (bytes_eq-Decides _ _).1 same in
    step (bytes_at (byte_len w) bytes) _ (digits, rest) e ∙ rw passes refl

pub no_digits : (w : Width) (bytes : List ℕ) → bytes_at (byte_len w) bytes ≡ None → number_at w bytes ≡ None
unfolding number_at
no_digits w bytes e = rw e refl

-- what was read from bytes is made of bytes
pub digits_are : (n : ℕ) (bytes digits rest : List ℕ) → ((i : ℕ) → get_or bytes i 0 < 256) → bytes_at n bytes ≡ Some (digits, rest) → (length digits ≡ n) × ((i : ℕ) → get_or digits i 0 < 256)
digits_are n bytes digits rest fits e =
    let read = (bytes_agree n).only bytes (digits, rest) e in
    let front : digits ≡ take n bytes = ap (λ (x : List ℕ × List ℕ). x.0) (sym (cond_some (leb n (length bytes)) (take n bytes, drop n bytes) (digits, rest) e).1) in
    let each : (i : ℕ) → get_or digits i 0 < 256 = λ i. elim (cases_lt i n) [
      | inl lt ↦ rw (front, get_or-take n bytes i 0 lt) (fits i)
      | inr le ↦ rw (get_or_past digits i 0 (omega (arith, read.good))) (omega arith)
    ] in
    (read.good, each)
