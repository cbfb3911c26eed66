-- Directories that are left to look at, in another order.
use Rattle.std.proofs.Common.{◌≡◌, ◌++◌, List, [], ◌∷◌, Contains, sym, subst, inl, inr}
use Rattle.std.proofs.lemmas.List.Elements.{Contains-append_left, Contains-append_right, Contains-append_cases, Contains-push, Contains-push_cases}
use Rattle.eden_overlay.proofs.CallerLemmas.{contains_cases, contains_first, contains_rest}
use Rattle.eden_repair.specs.declared.survey.Directory.{Directory}

-- each of these is one of those
abbrev pub AreAmong : List Directory → List Directory → Type 0
AreAmong xs ys = (y : Directory) → Contains xs y → Contains ys y

-- the last one is the next
module _ (aside left before : List Directory) (x : Directory) (is : left ≡ before ++ x ∷ []) where
  pub next_to : AreAmong (aside ++ left) (x ∷ (aside ++ before))
  next_to y there = elim (Contains-append_cases aside left y there) [
    | inl a ↦ contains_rest x y (aside ++ before) (Contains-append_left aside before y a)
    | inr l ↦ elim (Contains-push_cases before x y (subst (λ ys. Contains ys y) is l)) [
      | inl b ↦ contains_rest x y (aside ++ before) (Contains-append_right aside before y b)
      | inr same ↦ subst (Contains (x ∷ (aside ++ before))) same (contains_first x (aside ++ before))
    ]
  ]

  pub next_back : AreAmong (x ∷ (aside ++ before)) (aside ++ left)
  next_back y there = elim (contains_cases x y (aside ++ before) there) [
    | inl same ↦ Contains-append_right aside left y (subst (λ ys. Contains ys y) (sym is) (subst (Contains (before ++ x ∷ [])) same (Contains-push before x)))
    | inr later ↦ elim (Contains-append_cases aside before y later) [
      | inl a ↦ Contains-append_left aside left y a
      | inr b ↦ Contains-append_right aside left y (subst (λ ys. Contains ys y) (sym is) (Contains-append_left before (x ∷ []) y b))
    ]
  ]

-- those below it come behind the others
module _ (below aside before : List Directory) where
  pub below_to : AreAmong (below ++ (aside ++ before)) (aside ++ (before ++ below))
  below_to y there = elim (Contains-append_cases below (aside ++ before) y there) [
    | inl new ↦ Contains-append_right aside (before ++ below) y (Contains-append_right before below y new)
    | inr old ↦ elim (Contains-append_cases aside before y old) [
      | inl a ↦ Contains-append_left aside (before ++ below) y a
      | inr b ↦ Contains-append_right aside (before ++ below) y (Contains-append_left before below y b)
    ]
  ]

  pub below_back : AreAmong (aside ++ (before ++ below)) (below ++ (aside ++ before))
  below_back y there = elim (Contains-append_cases aside (before ++ below) y there) [
    | inl a ↦ Contains-append_right below (aside ++ before) y (Contains-append_left aside before y a)
    | inr later ↦ elim (Contains-append_cases before below y later) [
      | inl b ↦ Contains-append_right below (aside ++ before) y (Contains-append_right aside before y b)
      | inr new ↦ Contains-append_left below (aside ++ before) y new
    ]
  ]

  pub below_there : (all : List Directory) → all ≡ before ++ below → AreAmong (aside ++ all) (below ++ (aside ++ before))
  below_there all is = subst (λ l. AreAmong (aside ++ l) (below ++ (aside ++ before))) (sym is) below_back

-- it may be put aside
module _ (aside before : List Directory) (x : Directory) where
  pub aside_to : AreAmong (x ∷ (aside ++ before)) ((aside ++ x ∷ []) ++ before)
  aside_to y there = elim (contains_cases x y (aside ++ before) there) [
    | inl same ↦ Contains-append_left (aside ++ x ∷ []) before y (subst (Contains (aside ++ x ∷ [])) same (Contains-push aside x))
    | inr later ↦ elim (Contains-append_cases aside before y later) [
      | inl a ↦ Contains-append_left (aside ++ x ∷ []) before y (Contains-append_left aside (x ∷ []) y a)
      | inr b ↦ Contains-append_right (aside ++ x ∷ []) before y b
    ]
  ]

  pub aside_back : AreAmong ((aside ++ x ∷ []) ++ before) (x ∷ (aside ++ before))
  aside_back y there = elim (Contains-append_cases (aside ++ x ∷ []) before y there) [
    | inr b ↦ contains_rest x y (aside ++ before) (Contains-append_right aside before y b)
    | inl front ↦ elim (Contains-push_cases aside x y front) [
      | inl a ↦ contains_rest x y (aside ++ before) (Contains-append_left aside before y a)
      | inr same ↦ subst (Contains (x ∷ (aside ++ before))) same (contains_first x (aside ++ before))
    ]
  ]

  pub aside_there : (all : List Directory) → all ≡ aside ++ x ∷ [] → AreAmong (all ++ before) (x ∷ (aside ++ before))
  aside_there all is = subst (λ l. AreAmong (l ++ before) (x ∷ (aside ++ before))) (sym is) aside_back
