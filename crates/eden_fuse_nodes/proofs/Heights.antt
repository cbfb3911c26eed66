-- A way up comes to no node twice, so it has no more names than nodes are known.
use Rattle.std.proofs.Common.{◌≡◌, ◌≢◌, ◌<◌, ◌≤◌, ◌∙◌, ◌⊎◌, inl, inr, ⊎_elim, ℕ, Bool, true, false, List, []}
use Rattle.std.proofs.Common.{◌∷◌, length, length-append, Option, Some, None, IsSome, MatchBool, nat_eq, refl, sym, ap, subst, arith, append-nil}
use Rattle.std.specs.Ordering.{nat_cmp, eq_by_cmp}
use Rattle.std.specs.List.{AllByRecursion, IsDistinct, list_any}
use Rattle.std.proofs.lemmas.Bool.{cases_Bool, eqb-true, eq-eqb, false_from_ne_true, false≢true}
use Rattle.std.proofs.lemmas.Cmp.{nat_cmp_total, eq_by_cmp_equiv}
use Rattle.std.proofs.lemmas.Map.Steps.{length-le_from_keys}
use Rattle.std.proofs.lemmas.Option.{none-some}
use Rattle.eden_model.specs.Trees.{Name}
use Rattle.eden_fuse_nodes.specs.declared.place.Place.{Place}
use Rattle.eden_fuse_nodes.specs.declared.known.Known.{Known}
use Rattle.eden_fuse_nodes.specs.Tables.{Table, IsNodeTable, known, place_in, place_of, root}
use Rattle.eden_fuse_nodes.specs.Ways.{LeadsUp, IsBelowRoot}
use Rattle.eden_fuse_nodes.proofs.Orders.{same_number}
use Rattle.eden_fuse_nodes.proofs.PathLemmas.{one_way}
use Rattle.eden_fuse_nodes.proofs.Walks.{Walked}

abbrev is_number : ℕ → ℕ → Bool
is_number = eq_by_cmp nat_cmp

-- the nodes on a way up, but for its end
abbrev on_way : (t : Table) (id : ℕ) (up : List Name) → LeadsUp t id up → List ℕ
on_way t id [] l = []
on_way t id (n ∷ up) l = id ∷ on_way t l.0 up l.2

length-on_way : (t : Table) (id : ℕ) (up : List Name) (l : LeadsUp t id up) → length (on_way t id up l) ≡ length up
length-on_way t id [] l = refl
length-on_way t id (n ∷ up) l = omega (arith, length-on_way t l.0 up l.2)

-- a node whose way is longer isn't on it
apart : (t : Table) → IsNodeTable t → (j : ℕ) (longer : List Name) → LeadsUp t j longer → (id : ℕ) (up : List Name) (l : LeadsUp t id up) → length up < length longer
    → AllByRecursion (λ i. is_number j i ≡ false) (on_way t id up l)
apart t x j longer m id [] l h = tt
apart t x j longer m id (n ∷ up) l h = (
  false_from_ne_true (is_number j id) (λ e.
      let same = one_way t x id longer (n ∷ up) (subst (λ (i : ℕ). LeadsUp t i longer) (same_number j id e) m) l in
      omega (arith, h, ap length same)),
  apart t x j longer m l.0 up l.2 (omega (arith, h)),
)

distinct : (t : Table) → IsNodeTable t → (id : ℕ) (up : List Name) (l : LeadsUp t id up) → IsDistinct is_number (on_way t id up l)
unfolding IsDistinct
distinct t x id [] l = tt
distinct t x id (n ∷ up) l = (apart t x id (n ∷ up) l l.0 up l.2 (omega arith), distinct t x l.0 up l.2)

known_there : (o : Option Known) (p : Place) → place_in o ≡ Some p → IsSome o
known_there None p e = absurd (none-some p e)
known_there (Some k) p e = refl

all_known : (t : Table) (id : ℕ) (up : List Name) (l : LeadsUp t id up) (i : ℕ) → list_any (is_number i) (on_way t id up l) ≡ true → IsSome (known t i)
all_known t id [] l i e = absurd (false≢true e)
all_known t id (n ∷ up) l i e = ⊎_elim
    (λ b. subst (λ (j : ℕ). IsSome (known t j)) (sym (same_number i id b)) (known_there (known t id) _ l.1))
    (λ b. all_known t l.0 up l.2 i (rw b at e))
    (cases_Bool (is_number i id))

pub way_bound : (t : Table) → IsNodeTable t → (id : ℕ) (up : List Name) → LeadsUp t id up → length up ≤ length t
way_bound t x id up l =
    let many = length-le_from_keys (eq_by_cmp_equiv nat_cmp_total) (on_way t id up l) t (distinct t x id up l) (all_known t id up l) in
    omega (arith, many, length-on_way t id up l)

-- ---- where a walk is

as_tested : (b : Bool) {P : Type 0} → (b ≡ true → P) → (b ≡ false → ¬ P) → MatchBool b P (¬ P)
as_tested true h k = h refl
as_tested false h k = k refl

module _ (t : Table) (x : IsNodeTable t) (id node : ℕ) (up : List Name) (w : Walked t id node up) where
  -- it can't go on, as no way can be as long
  stops : length t ≤ length up → node ≢ root → ¬ IsBelowRoot t id
  stops h n b =
      let o = w.only b.0 b.1 in
      further o.0 o.2 (omega (arith, h, ap length o.1, length-append up o.0, way_bound t x id b.0 b.1))
    where
      further : (rest : List Name) → LeadsUp t node rest → length rest ≤ 0 → ⊥
      further [] l e = n l
      further (m ∷ rest) l e = omega (arith, e)

  reached : node ≡ root → IsBelowRoot t id
  reached r = (up, subst (λ (y : List Name). LeadsUp t id y) (append-nil up) (w.back [] r))

  pub ended : (place_of t node ≡ None) ⊎ (length t ≤ length up) → MatchBool (nat_eq node root) (IsBelowRoot t id) (¬ IsBelowRoot t id)
  ended h = as_tested (nat_eq node root) (λ e. reached (eqb-true node root e)) (λ f.
      let off : node ≢ root = λ e. false≢true (sym f ∙ eq-eqb node root e) in
      λ b. elim h [
        | inl bare ↦ let o = w.only b.0 b.1 in (stuck off bare o.0 o.2)
        | inr long ↦ stops long off b
      ])
    where
      stuck : node ≢ root → place_of t node ≡ None → (rest : List Name) → ¬ LeadsUp t node rest
      stuck n s [] l = n l
      stuck n s (m ∷ rest) l = none-some _ (sym s ∙ l.1)
