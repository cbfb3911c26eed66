-- What waits at a path, and what is seen there.
use Rattle.std.proofs.Common.{◌≡◌, ◌==◌, ◌&&◌, ◌+◌, ◌-◌, ◌≤◌, ℕ, nat_le, nat_lt, Bool, true, false, cond, List, [], ◌∷◌, ◌++◌, length}
use Rattle.std.proofs.Common.{reverse, Option, Some, None, option_map, inl, inr, refl, sym, ap, subst, ◌∙◌}
use Rattle.std.proofs.lemmas.Bool.{cases_Bool, eqb-true, leb-true, eq-eqb, false≢true}
use Rattle.std.specs.Cmp.{nat_cmp_is}
use Rattle.std.proofs.lemmas.Slice.Eq.{bytes_eq-Decides}
use Rattle.std.specs.BTreeMap.{is_at}
use Rattle.std.specs.Map.{lookup}
use Rattle.std.specs.Option.{is_some}
use Rattle.std.specs.Ordering.{nat_cmp, is_eq}
use Rattle.std.specs.declared.cmp.Ordering.TheVariants.{Less, Equal, Greater}
use Rattle.std.specs.Str.{bytes_eq}
use Rattle.eden_model.specs.declared.node.Node.{Node}
use Rattle.eden_model.specs.declared.node.Node.TheVariants.{File, Link, Dir}
use Rattle.eden_model.specs.ChangeLaws.{DataIsWritten, OldBytesStay, WrittenLength}
use Rattle.eden_model.specs.Operations.{with_content, written}
use Rattle.eden_model.specs.Trees.{Name, Path}
use Rattle.eden_fuse_nodes.specs.declared.place.Place.{Place}
use Rattle.eden_fuse_nodes.specs.Laws.{OneNode}
use Rattle.eden_fuse_nodes.specs.Tables.{IsNodeTable, place_of, root}
use Rattle.eden_fuse_nodes.specs.Tables.{Table as Nodes}
use Rattle.eden_fuse_nodes.specs.Ways.{LeadsUp, LiesAt}
use Rattle.eden_fuse_shown.specs.Waiting.{Extent, can_join, extent_of, joined}
use Rattle.eden_fuse_shown.specs.Waiting.{Table as Waits}
use Rattle.eden_fuse_shown.specs.Seeing.{goes_up, leads_up, lies_at, waits_at, with_waiting, LiesAsTold}
use Rattle.eden_fuse_shown.proofs.Contents.{written_again, written_into}

-- ---- the node at a path

pub both : (a b : Bool) → (a && b) ≡ true → (a ≡ true) × (b ≡ true)
both true b h = (refl, h)
both false b h = absurd (false≢true h)

abbrev in_directory : ℕ → Name → Option Place
in_directory parent n = Some (record { parent = parent; name = n })

step_up : (nodes : Nodes) (name : Name) (up : List Name) (id : ℕ) (o : Option Place) → place_of nodes id ≡ o
    → ((parent : ℕ) → leads_up nodes up parent ≡ true → LeadsUp nodes parent up) → goes_up o name (λ parent. leads_up nodes up parent) ≡ true
    → LeadsUp nodes id (name ∷ up)
step_up nodes name up id None is further h = absurd (false≢true h)
step_up nodes name up id (Some p) is further h =
    let parts = both (bytes_eq p.name name) (leads_up nodes up p.parent) h in
    let same : p.name ≡ name = (bytes_eq-Decides p.name name).0 parts.0 in
    (p.parent, is ∙ ap (λ (n : Name). in_directory p.parent n) same, further p.parent parts.1)

leads : (nodes : Nodes) (up : List Name) (id : ℕ) → leads_up nodes up id ≡ true → LeadsUp nodes id up
leads nodes [] id h = eqb-true id root h
leads nodes (name ∷ up) id h = step_up nodes name up id (place_of nodes id) refl (λ parent. leads nodes up parent) h

led : (nodes : Nodes) (up : List Name) (id : ℕ) → LeadsUp nodes id up → leads_up nodes up id ≡ true
led nodes [] id h = eq-eqb id root h
led nodes (name ∷ up) id (parent, is, further) =
    ap (λ (o : Option Place). goes_up o name (λ x. leads_up nodes up x)) is
    ∙ ap (λ (b : Bool). b && leads_up nodes up parent) ((bytes_eq-Decides name name).1 refl)
    ∙ led nodes up parent further

pub lies_as_told : LiesAsTold
lies_as_told nodes p id = (leads nodes (reverse p) id, led nodes (reverse p) id)

-- ---- what waits at a path

found : (test : ℕ → Bool) (t : Waits) (e : Extent) → lookup test t ≡ Some e → (id : ℕ) × (test id ≡ true)
found test [] e h = absurd (false≢true (ap (λ (o : Option Extent). is_some o) h))
found test (w ∷ ws) e h = elim (cases_Bool (test w.0)) [
  | inl so ↦ (w.0, so)
  | inr differs ↦ found test ws e (sym (ap (λ (b : Bool). cond b (Some w.1) (lookup test ws)) differs) ∙ h)
]

tested : (f g : ℕ → Bool) (t : Waits) → ((i : ℕ) → f i ≡ g i) → lookup f t ≡ lookup g t
tested f g [] same = refl
tested f g (w ∷ ws) same =
    ap (λ (b : Bool). cond b (Some w.1) (lookup f ws)) (same w.0) ∙ ap (λ (o : Option Extent). cond (g w.0) (Some w.1) o) (tested f g ws same)

agree : (a b : Bool) → (a ≡ true → b ≡ true) → (b ≡ true → a ≡ true) → a ≡ b
agree true b f g = sym (f refl)
agree false true f g = g refl
agree false false f g = refl

numbers : (a b : ℕ) (s t : Bool) → (t ≡ true → a ≡ b) → is_eq (cond s Less (cond t Equal Greater)) ≡ true → a ≡ b
numbers a b true t h e = absurd (false≢true e)
numbers a b false true h e = h refl
numbers a b false false h e = absurd (false≢true e)

same_number : (a b : ℕ) → is_at (nat_cmp a) b ≡ true → a ≡ b
same_number a b e = numbers a b (nat_lt a b) (a == b) (eqb-true a b) e

at_itself : (a : ℕ) → is_at (nat_cmp a) a ≡ true
at_itself a = sym (ap is_eq (nat_cmp_is a a Equal refl))

module _ (one : OneNode) (nodes : Nodes) (whole : IsNodeTable nodes) where
  -- .. is what waits for the node that lies there
  pub at_node : (t : Waits) (id : ℕ) (q : Path) → LiesAt nodes id q → waits_at nodes t q ≡ extent_of t id
  at_node t id q lies = tested (lies_at nodes q) (is_at (nat_cmp id)) t (λ i. agree (lies_at nodes q i) (is_at (nat_cmp id) i)
      (λ so. subst (λ (x : ℕ). is_at (nat_cmp id) x ≡ true) (one nodes id i q whole lies ((lies_as_told nodes q i).0 so)) (at_itself id))
      (λ so. subst (λ (x : ℕ). lies_at nodes q x ≡ true) (same_number id i so) ((lies_as_told nodes q id).1 lies)))

  by_node : (old new : Waits) (q : Path) → ((i : ℕ) → LiesAt nodes i q → extent_of new i ≡ extent_of old i) → (id : ℕ) → lies_at nodes q id ≡ true
      → waits_at nodes new q ≡ waits_at nodes old q
  by_node old new q same id so =
      let lies = (lies_as_told nodes q id).0 so in
      at_node new id q lies ∙ same id lies ∙ sym (at_node old id q lies)

  by_what : (old new : Waits) (q : Path) → ((i : ℕ) → LiesAt nodes i q → extent_of new i ≡ extent_of old i) → (o n : Option Extent)
      → waits_at nodes old q ≡ o → waits_at nodes new q ≡ n → waits_at nodes new q ≡ waits_at nodes old q
  by_what old new q same (Some e) n was is =
      let there = found (lies_at nodes q) old e was in
      by_node old new q same there.0 there.1
  by_what old new q same None (Some e) was is =
      let there = found (lies_at nodes q) new e is in
      by_node old new q same there.0 there.1
  by_what old new q same None None was is = is ∙ sym was

  -- the same waits at a path if the same waits for each node that lies there
  pub same_there : (old new : Waits) (q : Path) → ((i : ℕ) → LiesAt nodes i q → extent_of new i ≡ extent_of old i)
      → waits_at nodes new q ≡ waits_at nodes old q
  same_there old new q same = by_what old new q same (waits_at nodes old q) (waits_at nodes new q) refl refl

-- ---- what is seen at a path

module _ (put : DataIsWritten) (stay : OldBytesStay) (long : WrittenLength) where
  content_into : (f g : ℕ) (a b : List ℕ) (o : Option (List ℕ)) → f ≤ g → g ≤ f + length a
      → option_map (written g b) (option_map (written f a) o) ≡ option_map (written f (written (g - f) b a)) o
  content_into f g a b None low high = refl
  content_into f g a b (Some c) low high = ap (λ (x : List ℕ). Some x) (written_into put stay long f g a b c low high)

  node_into : (f g : ℕ) (a b : List ℕ) (o : Option Node) → f ≤ g → g ≤ f + length a
      → option_map (with_content (option_map (written g b))) (option_map (with_content (option_map (written f a))) o)
      ≡ option_map (with_content (option_map (written f (written (g - f) b a)))) o
  node_into f g a b None low high = refl
  node_into f g a b (Some (File x c)) low high = ap (λ (y : Option (List ℕ)). Some (File x y)) (content_into f g a b c low high)
  node_into f g a b (Some (Link c)) low high = refl
  node_into f g a b (Some (Dir l)) low high = refl

  -- bytes wait too, or what is seen is written
  pub joined_seen : (w : Option Extent) (from : ℕ) (b : List ℕ) (o : Option Node) → can_join w from ≡ true
      → with_waiting (Some (joined w from b)) o ≡ option_map (with_content (option_map (written from b))) (with_waiting w o)
  joined_seen None from b o joins = refl
  joined_seen (Some e) from b o joins =
      let parts = both (nat_le e.from from) (nat_le from (e.from + length e.bytes)) joins in
      sym (node_into e.from from e.bytes b o (leb-true e.from from parts.0) (leb-true from (e.from + length e.bytes) parts.1))

  content_again : (f : ℕ) (a : List ℕ) (o : Option (List ℕ)) → option_map (written f a) (option_map (written f a) o) ≡ option_map (written f a) o
  content_again f a None = refl
  content_again f a (Some c) = ap (λ (x : List ℕ). Some x) (written_again put stay long f a c)

  -- what is stored, and waits still
  pub again_seen : (e : Extent) (o : Option Node) → with_waiting (Some e) (with_waiting (Some e) o) ≡ with_waiting (Some e) o
  again_seen e None = refl
  again_seen e (Some (File x c)) = ap (λ (y : Option (List ℕ)). Some (File x y)) (content_again e.from e.bytes c)
  again_seen e (Some (Link c)) = refl
  again_seen e (Some (Dir l)) = refl
