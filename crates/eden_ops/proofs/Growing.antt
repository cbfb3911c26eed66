-- Entries as they were, but that directories got loaded.
use Rattle.std.proofs.Common.{◌≡◌, ◌⊎◌, ℕ, Bool, true, false, cond, [], ◌∷◌, ◌++◌, Option, Some, None, sym, refl, ◌∙◌, ap, subst, inl, inr}
use Rattle.std.proofs.lemmas.List.{append-nil}
use Rattle.std.proofs.lemmas.Option.{same_Some, none-some}
use Rattle.std.specs.Option.{option_map}
use Rattle.std.specs.Str.{bytes_eq}
use Rattle.eden_model.specs.declared.kind.Kind.TheVariants as kind
use Rattle.eden_model.specs.declared.node.Node.TheVariants.{Dir}
use Rattle.eden_model.specs.Paths.{behind_of}
use Rattle.eden_model.specs.Trees.{Name, Path, grafted}
use Rattle.eden_tree.specs.Directory.{Row, Directory, child_of, with_child}
use Rattle.eden_tree.specs.Paths.{row_at, edit_row, stamped_along, Standing, standing, standing_at, stamped}
use Rattle.eden_tree.proofs.CallerLemmas.{same-≡, child_of-with_child, edits_one, edits_there, stamps_along}
use Rattle.eden_coupling.proofs.CallerLemmas.{map_some}
use Rattle.eden_ops.specs.Known.{IsKnownLoadedAt}
use Rattle.eden_ops.specs.Laws.{Stays, Grows}
use Rattle.eden_ops.proofs.Deeper.{stays_loaded}
use Rattle.eden_ops.proofs.Walking.{front_loaded, known_at, known_loaded, known_dir}

-- ---- one after the other

stays_same : (y : Standing) → Stays y y
stays_same y = record { number = refl; kind = refl; origin = refl; loaded = λ stamp unsaved is. (stamp, is); leaf = λ other none. none }

stays_on : (y v u : Standing) → Stays y v → Stays v u → Stays y u
stays_on y v u a b = record {
  number = b.number ∙ a.number;
  kind = b.kind ∙ a.kind;
  origin = b.origin ∙ a.origin;
  loaded = λ stamp unsaved is. let c = a.loaded stamp unsaved is in b.loaded c.0 unsaved c.1;
  leaf = λ other none. b.leaf (λ dir. other (sym a.kind ∙ dir)) (a.leaf other none);
}

pub grows_same : (x : Row) → Grows x x
grows_same x = record { there = λ p y is. (y, (is, stays_same y)); absent = λ p n is none. none }

pub grows_on : (x y z : Row) → Grows x y → Grows y z → Grows x z
grows_on x y z a b = record {
  there = λ p v is. let c = a.there p v is in let d = b.there p c.0 c.1.0 in (d.0, (d.1.0, stays_on v c.0 d.0 c.1.1 d.1.1));
  absent = λ p n is none. b.absent p n (stays_loaded x y p a is) (a.absent p n is none);
}

-- ---- stamps

stays_stamped : (s : ℕ) (y : Standing) → Stays y (stamped s y)
stays_stamped s y = record {
  number = refl;
  kind = refl;
  origin = refl;
  loaded = λ stamp unsaved is. (s, ap (option_map (λ (l : ℕ × Bool). (s, l.1))) is);
  leaf = λ other none. ap (option_map (λ (l : ℕ × Bool). (s, l.1))) none;
}

stamped_there : (s : ℕ) (o : Option Path) (was now : Option Standing) (y : Standing) → now ≡ grafted o (λ r. option_map (stamped s) was) was → was ≡ Some y
    → (v : Standing) × ((now ≡ Some v) × Stays y v)
stamped_there s None was now y is at = (y, (is ∙ at, stays_same y))
stamped_there s (Some r) was now y is at = (stamped s y, (is ∙ ap (option_map (stamped s)) at, stays_stamped s y))

stamped_absent : (s : ℕ) (o : Option Path) (was now : Option Standing) → now ≡ grafted o (λ r. option_map (stamped s) was) was → was ≡ None → now ≡ None
stamped_absent s None was now is none = is ∙ none
stamped_absent s (Some r) was now is none = is ∙ ap (option_map (stamped s)) none

pub grows_stamped : (p : Path) (s : ℕ) (x : Row) → Grows x (stamped_along p s x)
grows_stamped p s x = record {
  there = λ q y at. stamped_there s (behind_of q p) (standing_at q x) (standing_at q (stamped_along p s x)) y (stamps_along p s x q) at;
  absent = λ q n loaded none. stamped_absent s (behind_of (q ++ n ∷ []) p) (standing_at (q ++ n ∷ []) x) (standing_at (q ++ n ∷ []) (stamped_along p s x)) (stamps_along p s x (q ++ n ∷ [])) none;
}

-- ---- a directory that is loaded

-- a path either begins with another or doesn't
abbrev Parts : Path → Path → Option Path → Type 0
Parts p q o = (o ≡ None) ⊎ ((r : Path) × ((o ≡ Some r) × (q ≡ p ++ r)))

parts_by : (n m : Name) (p q : Path) (b : Bool) → bytes_eq n m ≡ b → Parts p q (behind_of p q) → Parts (n ∷ p) (m ∷ q) (cond b (behind_of p q) None)
parts_by n m p q false is h = inl refl
parts_by n m p q true is (inl none) = inl none
parts_by n m p q true is (inr r) = inr (r.0, (r.1.0, ap (λ (k : Name). k ∷ q) (sym (same-≡ n m is)) ∙ ap (λ (t : Path). n ∷ t) r.1.1))

parts : (p q : Path) → Parts p q (behind_of p q)
parts [] q = inr (q, (refl, refl))
parts (n ∷ p) [] = inl refl
parts (n ∷ p) (m ∷ q) = parts_by n m p q (bytes_eq n m) refl (parts p q)

-- one path with a name behind it is another with names behind it
pub never : (q : Path) (m : Name) (r : Path) → [] ≡ q ++ m ∷ r → ⊥
never [] m r is = cc
never (a ∷ q) m r is = cc

pub front_of : (p q : Path) (n m : Name) (r : Path) → p ++ n ∷ [] ≡ q ++ m ∷ r → (s : Path) × (p ≡ q ++ s)
front_of p [] n m r is = (p, refl)
front_of [] (a ∷ q) n m r is = let rest : [] ≡ q ++ m ∷ r = cc in absurd (never q m r rest)
front_of (b ∷ p) (a ∷ q) n m r is =
    let first : b ≡ a = cc in
    let rest : p ++ n ∷ [] ≡ q ++ m ∷ r = cc in
    let h = front_of p q n m r rest in
    (h.0, ap (λ (k : Name). k ∷ p) first ∙ ap (λ (t : Path). a ∷ t) h.1)

module _ (p : Path) (x y : Row) (d : Directory) (at : row_at p x ≡ Some y) (none : child_of y ≡ None) (dir : y.kind ≡ kind.Dir) where
  -- nothing stands below what isn't loaded
  nothing_below : (n : Name) (r : Path) (v : Standing) → standing_at (p ++ n ∷ r) x ≡ Some v → ⊥
  nothing_below n r v is =
      let z = map_some standing (row_at (p ++ n ∷ r) x) v (sym is) in
      let h = front_loaded x p n r z.0 z.1.0 in
      none-some h.1.1.0 (sym none ∙ ap child_of (same_Some y h.0 (sym at ∙ h.1.0)) ∙ h.1.1.1)

  abbrev here : Standing
  here = standing (with_child (Some d) y)

  stays_here : Stays (standing y) here
  stays_here = record {
    number = refl;
    kind = refl;
    origin = refl;
    loaded = λ stamp unsaved is. absurd (none-some (stamp, unsaved) (sym (ap (option_map (λ (e : Directory). (e.stamp, e.unsaved))) none) ∙ is));
    leaf = λ other away. absurd (other dir);
  }

  abbrev new : Row
  new = edit_row p (with_child (Some d)) x

  there_by : (q : Path) (v : Standing) → standing_at q x ≡ Some v → Parts p q (behind_of p q) → (u : Standing) × ((standing_at q new ≡ Some u) × Stays v u)
  there_by q v is (inl apart) =
      (v, (edits_one p (with_child (Some d)) x y q at ∙ ap (λ o. grafted o (λ r. standing_at r (with_child (Some d) y)) (standing_at q x)) apart ∙ is, stays_same v))
  there_by q v is (inr ([], (behind, split))) =
      let same : standing y ≡ v = same_Some (standing y) v (sym (ap (λ (t : Path). standing_at t x) (split ∙ append-nil p) ∙ ap (option_map standing) at) ∙ is) in (
        here,
        (
          edits_one p (with_child (Some d)) x y q at ∙ ap (λ o. grafted o (λ r. standing_at r (with_child (Some d) y)) (standing_at q x)) behind,
          subst
              (λ (a : Standing). Stays a here) same stays_here,
        ),
      )
  there_by q v is (inr (n ∷ r, (behind, split))) = absurd (nothing_below n r v (ap (λ (t : Path). standing_at t x) (sym split) ∙ is))

  -- a loaded directory isn't at or below the path
  not_below : (q s : Path) → IsKnownLoadedAt q x → q ≡ p ++ s → ⊥
  not_below q [] loaded split =
      let z = known_dir x q loaded in
      let same = same_Some z.0 y (sym z.1.0 ∙ ap (λ (t : Path). row_at t x) (split ∙ append-nil p) ∙ at) in
      none-some z.1.1.0 (sym none ∙ ap child_of (sym same) ∙ z.1.1.1)
  not_below q (n ∷ s) loaded split =
      let z = known_dir x q loaded in
      nothing_below n s (standing z.0) (ap (λ (t : Path). standing_at t x) (sym split) ∙ ap (option_map standing) z.1.0)

  absent_by : (q : Path) (n : Name) → IsKnownLoadedAt q x → standing_at (q ++ n ∷ []) x ≡ None → Parts p (q ++ n ∷ []) (behind_of p (q ++ n ∷ [])) → standing_at (q ++ n ∷ []) new ≡ None
  absent_by q n loaded is (inl apart) =
      edits_one p (with_child (Some d)) x y (q ++ n ∷ []) at ∙ ap (λ o. grafted o (λ r. standing_at r (with_child (Some d) y)) (standing_at (q ++ n ∷ []) x)) apart ∙ is
  absent_by q n loaded is (inr ([], (behind, split))) =
      absurd (none-some (standing y) (sym is ∙ ap (λ (t : Path). standing_at t x) (split ∙ append-nil p) ∙ ap (option_map standing) at))
  absent_by q n loaded is (inr (m ∷ r, (behind, split))) = let f = front_of q p n m r split in absurd (not_below q f.0 loaded f.1)

  pub grows_edit : Grows x new
  grows_edit = record { there = λ q v is. there_by q v is (parts p q); absent = λ q n loaded is. absent_by q n loaded is (parts p (q ++ n ∷ [])) }

  pub grows_loaded : (clock : ℕ) → Grows x (stamped_along p clock new)
  grows_loaded clock = grows_on x new (stamped_along p clock new) grows_edit (grows_stamped p clock new)

  pub loaded_there : (clock : ℕ) → IsKnownLoadedAt p (stamped_along p clock new)
  loaded_there clock =
      stays_loaded new (stamped_along p clock new) p (grows_stamped p clock new)
      (known_at new p (with_child (Some d) y) (Dir true) (edits_there p (with_child (Some d)) x ∙ ap (option_map (with_child (Some d))) at)
      (known_loaded (with_child (Some d) y) d (child_of-with_child (Some d) y)))
