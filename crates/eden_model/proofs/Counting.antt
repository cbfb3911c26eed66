-- What a count of failures says, put together.
use Rattle.std.proofs.Common.{◌≡◌, ◌≤◌, ◌⊎◌, inl, inr, ℕ, refl, subst, arith}
use Rattle.eden_model.specs.Failures.{one_more, Rose, Counted}

pub Rose-one_more : (n : ℕ) → Rose n (one_more n)
Rose-one_more n = record { kept = grind arith; more = grind arith }

-- the count was the same before
pub Rose-after : (a b c : ℕ) → b ≡ a → Rose b c → Rose a c
Rose-after a b c e h = let P : ℕ → Type 0 = λ n. Rose n c in subst P e h

module _ {failed : Type 0} where
  -- nothing failed, and nothing was counted
  pub Counted-none : (n : ℕ) → ¬ failed → Counted failed n n
  Counted-none n passed = record { rose = λ f. absurd (passed f); same = λ _. refl }

  -- a failure that was counted
  pub Counted-one : (n : ℕ) → failed → Counted failed n (one_more n)
  Counted-one n f = record { rose = λ _. Rose-one_more n; same = λ passed. absurd (passed f) }

  -- the count was the same before
  pub Counted-after : (a b c : ℕ) → b ≡ a → Counted failed b c → Counted failed a c
  Counted-after a b c e h = let P : ℕ → Type 0 = λ n. Counted failed n c in subst P e h

  -- a count never falls, where it is known whether the device failed
  pub Counted-kept : (a b : ℕ) → failed ⊎ (¬ failed) → Counted failed a b → a ≤ b
  Counted-kept a b (inl f) h = (h.rose f).kept
  Counted-kept a b (inr passed) h = omega (arith, h.same passed)

  -- the same failure by another name
  pub Counted-as : {other : Type 0} (a b : ℕ) → (failed → other) → (other → failed) → Counted failed a b → Counted other a b
  Counted-as a b to from h = record { rose = λ o. h.rose (from o); same = λ passed. h.same (λ f. passed (to f)) }
