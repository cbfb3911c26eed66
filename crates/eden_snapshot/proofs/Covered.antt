-- Paths that are covered by what is told.
use Rattle.std.proofs.Common.{◌≡◌, ◌⊎◌, inl, inr, List, [], ◌∷◌, ◌++◌, Option, None, Contains}
use Rattle.std.proofs.Common.{append_assoc, arith}
use Rattle.std.proofs.lemmas.List.Elements.{Contains-append_left, Contains-append_right, Contains-push, Contains-push_cases}
use Rattle.eden_model.specs.declared.id.Id.{Id}
use Rattle.eden_model.specs.declared.node.Node.{Node}
use Rattle.eden_model.specs.Trees.{Name, Path}
use Rattle.eden_snapshot.specs.declared.change.Change.{Change}
use Rattle.eden_snapshot.specs.Changes.{Told}
use Rattle.eden_snapshot.specs.Exact.{LeadsTo, added, removed, modified, retyped, IsCovered}

pub one_of : {A B : Type 0} (C : Type 0) → (A → C) → (B → C) → A ⊎ B → C
one_of C left right (inl a) = left a
one_of C left right (inr b) = right b

pub nothing_in : (t : Told) → Contains [] t → ⊥
nothing_in t h = omega (arith, h.1)

pub covered_left : (xs ys : List Told) (p : Path) → IsCovered xs p → IsCovered (xs ++ ys) p
covered_left xs ys p c = (c.0, (Contains-append_left xs ys c.0 c.1.0, c.1.1))

pub covered_right : (xs ys : List Told) (p : Path) → IsCovered ys p → IsCovered (xs ++ ys) p
covered_right xs ys p c = (c.0, (Contains-append_right xs ys c.0 c.1.0, c.1.1))

pub one_in : (t : Told) → Contains (t ∷ []) t
one_in t = Contains-push [] t

pub only_in : (t u : Told) → Contains (t ∷ []) u → t ≡ u
only_in t u h = one_of (t ≡ u) (λ before. absurd (nothing_in u before)) (λ same. same) (Contains-push_cases [] t u h)

pub below_of : (front : Path) (n m : Name) (q : Path) → (front ++ n ∷ []) ++ m ∷ q ≡ front ++ n ∷ m ∷ q
below_of front n m q = append_assoc front (n ∷ []) (m ∷ q)

pub never_leads : (c : Change) (o q : Option Node) → LeadsTo c o q → o ≡ None → q ≡ None → ⊥
never_leads c o q (added d x how_is kind_is) none_old none_new = absurd (cc)
never_leads c o q (removed d x how_is kind_is) none_old none_new = absurd (cc)
never_leads c o q (modified d x y how_is kind_is sort_is differ) none_old none_new = absurd (cc)
never_leads c o q (retyped d x y how_is kind_is differ) none_old none_new = absurd (cc)

-- some id
pub any_id : Id
any_id = record { bytes = [] }
