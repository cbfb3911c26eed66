-- A walk from a node up, and the only way that it may be.
use Rattle.std.proofs.Common.{◌≡◌, ◌≢◌, ◌<◌, ◌∙◌, ℕ, List, [], ◌∷◌, ◌++◌, length, reverse, Some, None, IsSome, refl, sym, ap, subst, arith, append_assoc, append-nil}
use Rattle.std.proofs.lemmas.Option.{none-some, same_Some}
use Rattle.std.proofs.lemmas.Bool.{lt-ltb}
use Rattle.std.proofs.lemmas.List.{length-append, length-reverse, reverse-reverse}
use Rattle.eden_model.specs.Paths.{most_names, path_refusal}
use Rattle.eden_fuse_nodes.specs.declared.place.Place.{Place}
use Rattle.eden_fuse_nodes.specs.Tables.{Table, place_of, root}
use Rattle.eden_fuse_nodes.specs.declared.way.Way.{Way}
use Rattle.eden_fuse_nodes.specs.declared.way.Way.TheVariants as way
use Rattle.eden_fuse_nodes.specs.declared.way.Whereabouts.{Whereabouts}
use Rattle.eden_fuse_nodes.specs.declared.way.Whereabouts.TheVariants.{At, TooFar, Nowhere}
use Rattle.eden_fuse_nodes.specs.Ways.{LeadsUp, EndsSo, Follows, IsWhere}

-- ---- a walk

-- these names lead from the node up to another, and each way from the node begins with them
pub record Walked (t : Table) (id node : ℕ) (up : List (List ℕ)) : Type 0 where
  pub back : (rest : List (List ℕ)) → LeadsUp t node rest → LeadsUp t id (up ++ rest)
  pub only : (other : List (List ℕ)) → LeadsUp t id other → (rest : List (List ℕ)) × (other ≡ up ++ rest) × LeadsUp t node rest

pub walked_none : (t : Table) (id : ℕ) → Walked t id id []
walked_none t id = record { back = λ rest l. l; only = λ other l. (other, refl, l) }

module _ (t : Table) (id node : ℕ) (up : List (List ℕ)) (w : Walked t id node up) where
  -- a step further
  step_only : (p : Place) → node ≢ root → place_of t node ≡ Some p → (rest : List (List ℕ)) → LeadsUp t node rest
      → (more : List (List ℕ)) × (rest ≡ p.name ∷ more) × LeadsUp t p.parent more
  step_only p n s [] l = absurd (n l)
  step_only p n s (name ∷ more) l =
      let same : p ≡ record { parent = l.0; name = name } = same_Some p _ (sym s ∙ l.1) in
      (more, ap (λ (q : Place). q.name ∷ more) (sym same), subst (λ (q : Place). LeadsUp t q.parent more) (sym same) l.2)

  pub walked_more : (p : Place) → node ≢ root → place_of t node ≡ Some p → Walked t id p.parent (up ++ p.name ∷ [])
  walked_more p n s = record {
    back = λ rest l. subst (λ (x : List (List ℕ)). LeadsUp t id x) (sym (append_assoc up (p.name ∷ []) rest)) (w.back (p.name ∷ rest) (p.parent, s, l));
    only = λ other l.
        let o = w.only other l in
        let m = step_only p n s o.0 o.2 in
        (m.0, o.1 ∙ ap (λ (x : List (List ℕ)). up ++ x) m.1 ∙ sym (append_assoc up (p.name ∷ []) m.0), m.2);
  }

  pub walked_step : (p : Place) → node ≢ root → place_of t node ≡ Some p → (name : List ℕ) (new : List (List ℕ)) → name ≡ p.name → new ≡ up ++ name ∷ []
      → Walked t id p.parent new
  walked_step p n s name new named is =
      subst (λ (x : List (List ℕ)). Walked t id p.parent x) (sym (is ∙ ap (λ (x : List ℕ). up ++ x ∷ []) named)) (walked_more p n s)

  pub walked_root : node ≡ root → place_of t root ≡ None → LeadsUp t id up × ((other : List (List ℕ)) → LeadsUp t id other → other ≡ up)
  walked_root r n = (
    subst (λ (x : List (List ℕ)). LeadsUp t id x) (append-nil up) (w.back [] r),
    λ other l. let o = w.only other l in o.1 ∙ at_root o.0 o.2,
  )
    where
      at_root : (rest : List (List ℕ)) → LeadsUp t node rest → up ++ rest ≡ up
      at_root [] l = append-nil up
      at_root (name ∷ rest) l = absurd (none-some _ (sym n ∙ ap (place_of t) (sym r) ∙ l.1))

  lost_here : node ≢ root → place_of t node ≡ None → (rest : List (List ℕ)) → ¬ LeadsUp t node rest
  lost_here n s [] l = n l
  lost_here n s (name ∷ rest) l = none-some _ (sym s ∙ l.1)

  pub walked_lost : node ≢ root → place_of t node ≡ None → (other : List (List ℕ)) → ¬ LeadsUp t id other
  walked_lost n s other l = let o = w.only other l in lost_here n s o.0 o.2

  pub walked_far : (k : ℕ) → k < length up → (rest : List (List ℕ)) → LeadsUp t node rest → (other : List (List ℕ)) × LeadsUp t id other × (k < length other)
  walked_far k h rest l = (up ++ rest, w.back rest l, omega (arith, h, length-append up rest))

  pub walked_off : ((rest : List (List ℕ)) → ¬ LeadsUp t node rest) → (other : List (List ℕ)) → ¬ LeadsUp t id other
  walked_off off other l = let o = w.only other l in off o.0 o.2

-- ---- a way is a path, or not

pub far_path : (path : List (List ℕ)) → most_names < length (reverse path) → IsSome (path_refusal path)
far_path path h = rw (lt-ltb most_names (length path) (omega (arith, h, length-reverse path))) refl

far_where : (t : Table) (id : ℕ) → EndsSo t id way.Far → IsWhere t id TooFar
far_where t id far =
    let back = sym (reverse-reverse far.0) in (
      reverse far.0,
      subst (λ (x : List (List ℕ)). LeadsUp t id x) back far.1,
      far_path (reverse far.0) (subst (λ (x : List (List ℕ)). most_names < length x) back far.2),
    )

refused_where : (t : Table) (id : ℕ) (up : List (List ℕ)) → LeadsUp t id up → IsSome (path_refusal (reverse up)) → IsWhere t id TooFar
refused_where t id up l r = (reverse up, subst (λ (x : List (List ℕ)). LeadsUp t id x) (sym (reverse-reverse up)) l, r)

pub is_where : (t : Table) (id : ℕ) (w : Way) (s : Whereabouts) → EndsSo t id w → Follows w s → IsWhere t id s
is_where t id (way.AtRoot up) (At path) e f =
    subst (λ (x : List (List ℕ)). LeadsUp t id x) (sym (ap reverse f ∙ reverse-reverse up.items)) e.0
is_where t id (way.AtRoot up) TooFar e f = refused_where t id up.items e.0 f
is_where t id (way.AtRoot up) Nowhere e f = absurd f
is_where t id way.Far s e f = subst (λ (x : Whereabouts). IsWhere t id x) (sym f) (far_where t id e)
is_where t id way.Lost s e f = subst (λ (x : Whereabouts). IsWhere t id x) (sym f) (λ path l. e (reverse path) l)
