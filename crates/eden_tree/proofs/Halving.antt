-- A width that halves at each step.
use Rattle.std.proofs.Common.{◌≡◌, ℕ, ◌+◌, ◌*◌, ◌/◌, ◌^◌, ◌<◌, ◌≤◌, ◌∙◌, ap, sym, inl, inr, add-one, arith}
use Rattle.std.proofs.Math.Nat.{pow-succ', mul-le-mul_right, mul_assoc}
use Rattle.std.proofs.Math.Pow.{pow_mono}
use Rattle.std.proofs.lemmas.Bool.{cases_lt}

doubled : (v k : ℕ) → v * 2 ^ (k + 1) ≡ v * 2 * 2 ^ k
doubled v k = ap (λ i. v * 2 ^ i) (add-one k) ∙ ap (λ p. v * p) (pow-succ' 2 k) ∙ sym (mul_assoc v 2 (2 ^ k))

pub half_left : (v w k n : ℕ) → v ≤ w / 2 → w * 2 ^ k ≤ n → v * 2 ^ (k + 1) ≤ n
half_left v w k n h p = let twice : v * 2 ≤ w = omega arith in omega (arith, doubled v k, mul-le-mul_right (2 ^ k) twice)

-- while something is left, no more steps than binary digits
pub few_steps : (w k n : ℕ) → 0 < w → w * 2 ^ k ≤ n → (m : ℕ) → n < 2 ^ m → k + 1 ≤ m
few_steps w k n h p m l = elim (cases_lt k m) [
  | inl below ↦ omega arith
  | inr from ↦
      let one : 1 ≤ w = omega arith in
      absurd (omega (arith, pow_mono {i = m} {j = k} from, mul-le-mul_right (2 ^ k) one))
]
