use Rattle.std.proofs.Common.{◌≡◌, ℕ, ◌+◌, ◌<◌, ◌≤◌, List, [], ◌∷◌, length, get_or, drop, None, sym, ◌∙◌, ap}
use Rattle.std.proofs.lemmas.List.{drop_more, drop_all}
use Rattle.eden_model.specs.Paths.{behind_of}
use Rattle.eden_oracle.proofs.front.behind.Goals as goal

behind_past : (f p : List (List ℕ)) (k : ℕ) → k < length f → length p ≤ k → behind_of (drop k f) (drop k p) ≡ None
behind_past f p k a b = ap (λ (x : List (List ℕ)). behind_of x (drop k p)) (drop_more f k [] a) ∙ ap (behind_of (get_or f k [] ∷ drop (k + 1) f)) (drop_all k p b)

pub returns-then-k-path : goal.returns-then-k-path
returns-then-k-path c = sym (behind_past c.args.front.now c.args.path.now c.loop-k.k c.loop-k-test.true c.if-k-path.true) ∙ c.loop-k.invariant.0
