-- The next number, by the numbers that directories name and those of the files.
use Rattle.std.proofs.Common.{◌≡◌, ◌≤◌, ◌<◌, ◌⊎◌, ◌+◌, ◌∙◌, ℕ, Bool, true, List, All, Contains, refl, sym, ap, inl, inr, arith}
use Rattle.std.specs.Option.{IsSome}
use Rattle.std.proofs.lemmas.List.Elements.{All-contains}
use Rattle.eden_model.specs.declared.id.Id.{Id}
use Rattle.eden_model.specs.Limits.{number_least, number_end}
use Rattle.eden_overlay_format.specs.declared.refusal.Refusal.TheVariants.{BadBody}
use Rattle.eden_overlay.specs.Counting.{Counted}
use Rattle.eden_overlay.specs.Files.{Stored, ListsNumbers}
use Rattle.eden_overlay.specs.Rescanning.{IsNextOf, IsDamaged}
use Rattle.eden_overlay.specs.Walking.{AreNamed}

-- what is found: one more than a number that was met, or than a file's, or the least
pub record IsFound (was_met : ℕ → Bool) (numbers : List ℕ) (after next : ℕ) : Type 0 where
  pub met : (k : ℕ) → was_met k ≡ true → k < after
  pub least : number_least ≤ after
  pub first : (after ≡ number_least) ⊎ ((k : ℕ) × ((was_met k ≡ true) × (after ≡ k + 1)))
  pub above : after ≤ next
  pub files : All (λ k. k < next) numbers
  pub last : (next ≡ after) ⊎ ((k : ℕ) × (Contains numbers k × (next ≡ k + 1)))

module _ (F : Stored) (root : Id) (was_met : ℕ → Bool) (are : AreNamed F root was_met) (files : List ℕ) (lists : ListsNumbers files F) (after next : ℕ)
    (found : IsFound was_met files after next) where
  first_of : (next ≡ after) → (after ≡ number_least) ⊎ ((k : ℕ) × ((was_met k ≡ true) × (after ≡ k + 1)))
      → (next ≡ number_least) ⊎ ((e : Counted F root) × (next ≡ e.entry.number + 1)) ⊎ ((k : ℕ) × (IsSome (F k) × (next ≡ k + 1)))
  first_of is (inl least) = inl (is ∙ least)
  first_of is (inr met) = let e = are.only met.0 met.1.0 in inr (inl (e.0, is ∙ met.1.1 ∙ ap (λ k. k + 1) (sym e.1)))

  last_of : (next ≡ after) ⊎ ((k : ℕ) × (Contains files k × (next ≡ k + 1)))
      → (next ≡ number_least) ⊎ ((e : Counted F root) × (next ≡ e.entry.number + 1)) ⊎ ((k : ℕ) × (IsSome (F k) × (next ≡ k + 1)))
  last_of (inl is) = first_of is found.first
  last_of (inr file) = inr (inr (file.0, (All-contains (λ j. IsSome (F j)) files file.0 lists.there file.1.0, file.1.1)))

  pub next_found : IsNextOf F root next
  next_found = record {
    below = λ e. let less = found.met e.entry.number (are.all e) in let more = found.above in omega (arith, less, more);
    above = λ k there. All-contains (λ j. j < next) files k found.files (lists.all k there);
    least = let least = found.least in let more = found.above in omega (arith, least, more);
    last = last_of found.last;
  }

-- where a file's number is the last or later, none is left
pub none_next : (F : Stored) (root : Id) (files : List ℕ) → ListsNumbers files F → (k : ℕ) × (Contains files k × (number_end ≤ k)) → IsDamaged F root 1 BadBody
none_next F root files lists late =
    inr (inr (inr (refl, refl, (late.0, (All-contains (λ j. IsSome (F j)) files late.0 lists.there late.1.0, late.1.1)))))
