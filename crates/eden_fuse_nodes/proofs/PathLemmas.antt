-- Ways up, and what changes of a table make of them.
use Rattle.std.proofs.Common.{◌≡◌, ◌≢◌, ◌+◌, ◌∙◌, ◌⊎◌, inl, inr, ⊎_elim, ℕ, List, [], ◌∷◌, ◌++◌, length, reverse, Option, Some, None, refl, sym, ap, subst, arith, append_assoc}
use Rattle.std.specs.Ordering.{eq_by_cmp}
use Rattle.std.proofs.lemmas.Bool.{cases_eq, eq-eqb, ne_eqb}
use Rattle.std.proofs.lemmas.List.{length-append, reverse-append, reverse-reverse}
use Rattle.std.proofs.lemmas.Option.{none-some, same_Some}
use Rattle.eden_model.specs.Trees.{Name, Path}
use Rattle.eden_fuse_nodes.specs.declared.place.Place.{Place}
use Rattle.eden_fuse_nodes.specs.declared.known.Known.{Known}
use Rattle.eden_fuse_nodes.specs.Tables.{Table, IsNodeTable, known, place_in, place_of, count_of, standing, moved, root, Learns, RemovesNode}
use Rattle.eden_fuse_nodes.specs.Ways.{LeadsUp, LiesAt}
use Rattle.eden_fuse_nodes.specs.Laws.{OnePath, OneNode, GoesThrough, LearntLies, RemovedLiesNowhere, RenamedLiesThere}
use Rattle.eden_fuse_nodes.proofs.Changes.{none_of, place-nowhere}
use Rattle.eden_fuse_nodes.proofs.Indexing.{by_place}
use Rattle.eden_fuse_nodes.proofs.Orders.{order, exact}

-- ---- one way from a node, and one node at its end

root_bare : (t : Table) → IsNodeTable t → place_of t root ≡ None
root_bare t x = ap place_in (none_of (known t root) (λ k e. let b = (x.told root k e).0 in omega (arith, b)))

place_is : (r s : Place) → r ≡ s → (r.parent ≡ s.parent) × (r.name ≡ s.name)
place_is r s e = (ap (λ (x : Place). x.parent) e, ap (λ (x : Place). x.name) e)

pub one_way : (t : Table) → IsNodeTable t → (i : ℕ) (a b : List Name) → LeadsUp t i a → LeadsUp t i b → a ≡ b
one_way t x i [] [] l m = refl
one_way t x i [] (n ∷ b) l m = absurd (none-some _ (sym (ap (place_of t) l ∙ root_bare t x) ∙ m.1))
one_way t x i (n ∷ a) [] l m = absurd (none-some _ (sym (ap (place_of t) m ∙ root_bare t x) ∙ l.1))
one_way t x i (n ∷ a) (o ∷ b) l m =
    let same = place_is _ _ (same_Some _ _ (sym l.1 ∙ m.1)) in
    let rest : a ≡ b = one_way t x l.0 a b l.2 (subst (λ (j : ℕ). LeadsUp t j b) (sym same.0) m.2) in
    (λ k. same.1 k ∷ rest k)

pub one_end : (t : Table) → IsNodeTable t → (i j : ℕ) (a : List Name) → LeadsUp t i a → LeadsUp t j a → i ≡ j
one_end t x i j [] l m = l ∙ sym m
one_end t x i j (n ∷ a) l m =
    let up = one_end t x l.0 m.0 a l.2 m.2 in
    x.alone i j _ l.1 (m.1 ∙ ap (λ k. Some (record { parent = k; name = n })) (sym up))

-- ---- a way that goes through neither of two places, at which alone something changes

longer : {X : Type 0} (b : List X) (x : X) (a : List X) → a ≢ b ++ x ∷ a
longer b x a e = omega (arith, ap length e, length-append b (x ∷ a))

longer_still : {X : Type 0} (n : X) (b : List X) (x : X) (a : List X) → n ∷ b ++ x ∷ a ≢ x ∷ a
longer_still n b x a e = omega (arith, ap length e, length-append b (x ∷ a))

-- all but the first
abbrev behind : List Name → List Name
behind [] = []
behind (n ∷ up) = up

stands_or : (o : Option Place) (p : Place) → (o ≡ Some p) ⊎ (o ≢ Some p)
stands_or None p = inr (none-some p)
stands_or (Some q) p = elim (by_place (eq_by_cmp order) exact q p) [
  | inl e ↦ inl (ap (λ (y : Place). Some y) e)
  | inr n ↦ inr (λ e. n (same_Some q p e))
]

-- what stands somewhere isn't the root
never_root : (t : Table) → IsNodeTable t → (i : ℕ) (s : Place) → place_of t i ≡ Some s → i ≢ root
never_root t x i s e r = none-some s (sym (ap (place_of t) r ∙ root_bare t x) ∙ e)

module _ (old new : Table) (x : IsNodeTable old) (p q : Place) (same : (i : ℕ) → place_of old i ≢ Some p → place_of old i ≢ Some q → place_of new i ≡ place_of old i)
    (u v : List Name) (pu : LeadsUp old p.parent u) (qv : LeadsUp old q.parent v) where
  -- a node that stands at a place has its way
  at_place : (r : Place) (w : List Name) → LeadsUp old r.parent w → (i : ℕ) (up : List Name) → LeadsUp old i up → place_of old i ≡ Some r → up ≡ r.name ∷ w
  at_place r w rw_ i up l e = one_way old x i up (r.name ∷ w) l (r.parent, e, rw_)

  pub kept_way : (i : ℕ) (up : List Name) → LeadsUp old i up → ((below : List Name) → up ≢ below ++ p.name ∷ u) → ((below : List Name) → up ≢ below ++ q.name ∷ v)
      → LeadsUp new i up
  kept_way i [] l h k = l
  kept_way i (n ∷ up) l h k =
      let stays : place_of new i ≡ place_of old i = same i (λ e. h [] (at_place p u pu i (n ∷ up) l e)) (λ e. k [] (at_place q v qv i (n ∷ up) l e)) in
      (l.0, stays ∙ l.1, kept_way l.0 up l.2 (λ below e. h (n ∷ below) (ap (λ y. n ∷ y) e)) (λ below e. k (n ∷ below) (ap (λ y. n ∷ y) e)))

  -- what stands at the end of a way through a place stood at it
  stood_at : (r : Place) (w : List Name) → LeadsUp old r.parent w → (i : ℕ) → LeadsUp old i (r.name ∷ w) → place_of old i ≡ Some r
  stood_at r w rw_ i l = l.1 ∙ ap (λ k. Some (record { parent = k; name = r.name })) (one_end old x l.0 r.parent w l.2 rw_)

  stays_below : (i : ℕ) (n : Name) (b : List Name) → LeadsUp old i (n ∷ b ++ p.name ∷ u) → ((below : List Name) → v ≢ below ++ p.name ∷ u)
      → place_of new i ≡ place_of old i
  stays_below i n b l off = same i
      (λ e. longer_still n b p.name u (at_place p u pu i (n ∷ b ++ p.name ∷ u) l e))
      (λ e. off b (sym (ap behind (at_place q v qv i (n ∷ b ++ p.name ∷ u) l e))))

  pub moved_way : ((i : ℕ) → place_of old i ≡ Some p → place_of new i ≡ Some q) → LeadsUp new q.parent v → ((below : List Name) → v ≢ below ++ p.name ∷ u)
      → (i : ℕ) (b : List Name) → LeadsUp old i (b ++ p.name ∷ u) → LeadsUp new i (b ++ q.name ∷ v)
  moved_way goes nv off i [] l = (q.parent, goes i (stood_at p u pu i l), nv)
  moved_way goes nv off i (n ∷ b) l = (l.0, stays_below i n b l off ∙ l.1, moved_way goes nv off l.0 b l.2)

  -- what stood at the second place, and not at the first, stands nowhere, and so what lay below it leads nowhere
  pub replaced_way : ((i : ℕ) → place_of old i ≡ Some q → place_of old i ≢ Some p → place_of new i ≡ None)
      → (i : ℕ) (b : List Name) → LeadsUp old i (b ++ q.name ∷ v) → ((below : List Name) → b ++ q.name ∷ v ≢ below ++ p.name ∷ u) → (w : List Name) → ¬ LeadsUp new i w
  replaced_way gone i [] l h [] m = never_root old x i _ (stood_at q v qv i l) m
  replaced_way gone i [] l h (n ∷ w) m =
      none-some _ (sym (gone i (stood_at q v qv i l) (λ e. h [] (at_place p u pu i (q.name ∷ v) l e))) ∙ m.1)
  replaced_way gone i (n ∷ b) l h [] m = never_root old x i _ l.1 m
  replaced_way gone i (n ∷ b) l h (o ∷ w) m =
      let stays : place_of new i ≡ place_of old i = same i
      (λ e. h [] (at_place p u pu i (n ∷ b ++ q.name ∷ v) l e))
      (λ e. longer_still n b q.name v (at_place q v qv i (n ∷ b ++ q.name ∷ v) l e)) in
      let up = place_is _ _ (same_Some _ _ (sym l.1 ∙ sym stays ∙ m.1)) in
      replaced_way gone l.0 b l.2 (λ below e. h (n ∷ below) (ap (λ y. n ∷ y) e)) w (subst (λ (j : ℕ). LeadsUp new j w) (sym up.0) m.2)

  -- what leads up led up before
  pub led_before : ((i : ℕ) → place_of old i ≡ Some q → place_of old i ≢ Some p → place_of new i ≡ None)
      → (i : ℕ) (w : List Name) → LeadsUp new i w → (was : List Name) × LeadsUp old i was
  led_before gone i [] m = ([], m)
  led_before gone i (n ∷ w) m = elim (stands_or (place_of old i) p) [
    | inl e ↦ (p.name ∷ u, (p.parent, e, pu))
    | inr h ↦ elim (stands_or (place_of old i) q) [
      | inl e ↦ absurd (none-some _ (sym (gone i e h) ∙ m.1))
      | inr k ↦ let up = led_before gone m.0 w m.2 in (n ∷ up.0, (m.0, sym (same i h k) ∙ m.1, up.1))
    ]
  ]

-- ---- a way that goes through a place at which nothing stands any more

module _ (old new : Table) (x : IsNodeTable old) (p : Place) (r : RemovesNode old new p) (u : List Name) (pu : LeadsUp old p.parent u) where
  stood : (i : ℕ) → LeadsUp old i (p.name ∷ u) → place_of old i ≡ Some p
  stood i l = stood_at old new x p p (λ j n o. ap place_in (r.kept j n)) u u pu pu p u pu i l

  pub lost_way : (i : ℕ) (b : List Name) → LeadsUp old i (b ++ p.name ∷ u) → (w : List Name) → ¬ LeadsUp new i w
  lost_way i [] l [] m = never_root old x i p (stood i l) m
  lost_way i [] l (n ∷ w) m = none-some _ (sym (ap place_in (r.gone i (stood i l)) ∙ place-nowhere (known old i)) ∙ m.1)
  lost_way i (n ∷ b) l [] m = never_root old x i _ l.1 m
  lost_way i (n ∷ b) l (o ∷ w) m =
      let other : place_of old i ≢ Some p = λ e. longer_still n b p.name u (one_way old x i (n ∷ b ++ p.name ∷ u) (p.name ∷ u) l (p.parent, e, pu)) in
      let stays : place_of new i ≡ place_of old i = ap place_in (r.kept i other) in
      let up = place_is _ _ (same_Some _ _ (sym l.1 ∙ sym stays ∙ m.1)) in
      lost_way l.0 b l.2 w (subst (λ (j : ℕ). LeadsUp new j w) (sym up.0) m.2)

  -- what leads up led up so before
  pub led_so : (i : ℕ) (w : List Name) → LeadsUp new i w → LeadsUp old i w
  led_so i [] m = m
  led_so i (n ∷ w) m = elim (stands_or (place_of old i) p) [
    | inl e ↦ absurd (none-some _ (sym (ap place_in (r.gone i e) ∙ place-nowhere (known old i)) ∙ m.1))
    | inr h ↦ (m.0, sym (ap place_in (r.kept i h)) ∙ m.1, led_so m.0 w m.2)
  ]

-- ---- paths, which are ways from the other end

turned : (above : Path) (n : Name) (rest : Path) → reverse (above ++ n ∷ rest) ≡ reverse rest ++ n ∷ reverse above
turned above n rest =
    reverse-append above (n ∷ rest) ∙ ap (λ (y : List Name). y ++ reverse above) (reverse-append (n ∷ []) rest) ∙ append_assoc (reverse rest) (n ∷ []) (reverse above)

turned_back : (path above : Path) (n : Name) (below : List Name) → reverse path ≡ below ++ n ∷ reverse above → GoesThrough path above n
turned_back path above n below e =
    (reverse below, sym (reverse-reverse path) ∙ ap reverse e ∙ turned below n (reverse above) ∙ ap (λ (y : List Name). y ++ n ∷ reverse below) (reverse-reverse above))

lies_turned : (t : Table) (i : ℕ) (above : Path) (n : Name) (rest : Path) → LiesAt t i (above ++ n ∷ rest) → LeadsUp t i (reverse rest ++ n ∷ reverse above)
lies_turned t i above n rest l = subst (λ (y : List Name). LeadsUp t i y) (turned above n rest) l

turned_lies : (t : Table) (i : ℕ) (above : Path) (n : Name) (rest : Path) → LeadsUp t i (reverse rest ++ n ∷ reverse above) → LiesAt t i (above ++ n ∷ rest)
turned_lies t i above n rest l = subst (λ (y : List Name). LeadsUp t i y) (sym (turned above n rest)) l

pub one_path : OnePath
one_path t id p q x l m = sym (reverse-reverse p) ∙ ap reverse (one_way t x id (reverse p) (reverse q) l m) ∙ reverse-reverse q

pub one_node : OneNode
one_node t i j p x l m = one_end t x i j (reverse p) l m

-- ---- a look-up

module _ (old new : Table) (id : ℕ) (p : Place) (h : Learns old new id p) where
  learnt_place : (i : ℕ) (r : Place) → place_of old i ≡ Some r → place_of new i ≡ Some r
  learnt_place i r e = ⊎_elim
      (λ s. let is : known new i ≡ standing (count_of old id + 1) p = h.known i ∙ rw (eq-eqb i id s) refl in ap place_in is ∙ ⊎_elim
      (λ t. sym t ∙ ap (place_of old) (sym s) ∙ e)
      (λ t. absurd (none-some r (sym (ap place_in t.0) ∙ ap (place_of old) (sym s) ∙ e)))
      h.settled)
      (λ n. let is : known new i ≡ known old i = h.known i ∙ rw (ne_eqb i id n) refl in ap place_in is ∙ e)
      (cases_eq i id)

  learnt_way : (i : ℕ) (up : List Name) → LeadsUp old i up → LeadsUp new i up
  learnt_way i [] l = l
  learnt_way i (n ∷ up) l = (l.0, learnt_place i _ l.1, learnt_way l.0 up l.2)

  learnt_there : place_of new id ≡ Some p
  learnt_there = let is : known new id ≡ standing (count_of old id + 1) p = h.known id ∙ rw (eq-eqb id id refl) refl in ap place_in is

pub learnt_lies : LearntLies
learnt_lies old new id p h = record {
  found = λ above l. turned_lies new id above p.name [] (p.parent, learnt_there old new id p h, learnt_way old new id p h p.parent (reverse above) l);
  kept = λ i path l. learnt_way old new id p h i (reverse path) l;
}

-- ---- a removal, a rename

pub removed_lies_nowhere : RemovedLiesNowhere
removed_lies_nowhere old new p above x r pu =
    let same : (i : ℕ) → place_of old i ≢ Some p → place_of old i ≢ Some p → place_of new i ≡ place_of old i = λ i n o. ap place_in (r.kept i n) in
    record {
      gone = λ i rest path l. lost_way old new x p r (reverse above) pu i (reverse rest) (lies_turned old i above p.name rest l) (reverse path);
      kept = λ i path l h.
          let off : (below : List Name) → reverse path ≢ below ++ p.name ∷ reverse above = λ below e. h (turned_back path above p.name below e) in
          kept_way old new x p p same (reverse above) (reverse above) pu pu i (reverse path) l off off;
      only = λ i path l. led_so old new x p r (reverse above) pu i (reverse path) l;
    }

place-moved_to : (o : Option Known) (p q : Place) → place_in o ≡ Some p → place_in (moved q o) ≡ Some q
place-moved_to None p q e = absurd (none-some p e)
place-moved_to (Some k) p q e = refl

pub renamed_lies_there : RenamedLiesThere
renamed_lies_there old new p q from to x r pu qv apart =
    let same : (i : ℕ) → place_of old i ≢ Some p → place_of old i ≢ Some q → place_of new i ≡ place_of old i = λ i n o. ap place_in (r.kept i n o) in
    let kept = kept_way old new x p q same (reverse from) (reverse to) pu qv in
    let off : (below : List Name) → reverse to ≢ below ++ p.name ∷ reverse from = λ below e. apart (turned_back to from p.name below e) in
    let nv : LeadsUp new q.parent (reverse to) = kept q.parent (reverse to) qv off (λ below e. longer below q.name (reverse to) e) in
    let gone : (i : ℕ) → place_of old i ≡ Some q → place_of old i ≢ Some p → place_of new i ≡ None
    = λ i e n. ap place_in (r.replaced i e n) ∙ place-nowhere (known old i) in
    record {
      goes = λ i rest l. turned_lies new i to q.name rest
          (moved_way old new x p q same (reverse from) (reverse to) pu qv
          (λ j e. ap place_in (r.goes j e) ∙ place-moved_to (known old j) p q e) nv off i (reverse rest) (lies_turned old i from p.name rest l));
      replaced = λ i rest path l h. replaced_way old new x p q same (reverse from) (reverse to) pu qv gone i (reverse rest) (lies_turned old i to q.name rest l)
          (λ below e. h (turned_back (to ++ q.name ∷ rest) from p.name below (turned to q.name rest ∙ e)))
          (reverse path);
      kept = λ i path l h k. kept i (reverse path) l
          (λ below e. h (turned_back path from p.name below e)) (λ below e. k (turned_back path to q.name below e));
      only = λ i path l.
          let up = led_before old new x p q same (reverse from) (reverse to) pu qv gone i (reverse path) l in
          (reverse up.0, subst (λ (y : List Name). LeadsUp old i y) (sym (reverse-reverse up.0)) up.1);
    }
