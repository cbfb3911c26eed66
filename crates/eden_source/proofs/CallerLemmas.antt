-- Runs of fetches, put together.
use Rattle.std.proofs.Common.{List, [], ◌∷◌, ◌++◌, refl, subst, sym}
use Rattle.eden_model.specs.declared.id.Id.{Id}
use Rattle.eden_source.specs.Fetching.{Answer, Ask, Fetches}

module _ {S : Type 0} (fetched : S → Id → Answer → S → Type 0) where
  pub Fetches-none : (s : S) → Fetches fetched s [] s
  Fetches-none s = refl

  pub Fetches-one : (s t : S) (id : Id) (answer : Answer) → fetched s id answer t → Fetches fetched s (record { id = id; answer = answer } ∷ []) t
  Fetches-one s t id answer h = (t, h, refl)

  -- one run after another
  pub Fetches-append : (s t u : S) (xs ys : List Ask) → Fetches fetched s xs t → Fetches fetched t ys u → Fetches fetched s (xs ++ ys) u
  Fetches-append s t u [] ys h k = let P : S → Type 0 = λ v. Fetches fetched v ys u in subst P (sym h) k
  Fetches-append s t u (x ∷ xs) ys h k = (h.0, h.1, Fetches-append h.0 t u xs ys h.2 k)

  -- one more question
  pub Fetches-push : (s t u : S) (xs : List Ask) (id : Id) (answer : Answer) → Fetches fetched s xs t → fetched t id answer u → Fetches fetched s (xs ++ record { id = id; answer = answer } ∷ []) u
  Fetches-push s t u xs id answer h k = Fetches-append s t u xs (record { id = id; answer = answer } ∷ []) h (Fetches-one t u id answer k)
