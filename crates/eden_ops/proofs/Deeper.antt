-- Waits that follow each other stand deeper and deeper.
use Rattle.std.proofs.Common.{◌≡◌, ◌<◌, ◌≤◌, ℕ, Bool, true, false, cond, [], ◌∷◌, ◌++◌, length, Option, Some, None, sym, refl, ◌∙◌, ap, subst, arith, length-append}
use Rattle.std.proofs.lemmas.List.{append_assoc}
use Rattle.std.specs.Option.{option_map}
use Rattle.eden_model.specs.declared.node.Node.{Node}
use Rattle.eden_model.specs.declared.node.Node.TheVariants.{File, Link, Dir}
use Rattle.eden_model.specs.Trees.{Name, Path, Tree, Unlisted, through, walk_from}
use Rattle.eden_tree.specs.Directory.{Row, Directory, child_of}
use Rattle.eden_tree.specs.Paths.{row_at, Standing, standing}
use Rattle.eden_coupling.proofs.CallerLemmas.{map_some}
use Rattle.eden_ops.specs.Known.{known, IsKnownLoadedAt, place_from, is_unlisted}
use Rattle.eden_ops.specs.Laws.{Grows, PlaceIsFront, NextIsDeeper}
use Rattle.eden_ops.proofs.Walking.{known_loaded, known_at, known_dir}

front_by : (front rest far : Path) (b : Bool) → ((r : Path) × (front ++ rest ≡ far ++ r)) → (r : Path) × (front ++ rest ≡ cond b front far ++ r)
front_by front rest far true h = (rest, refl)
front_by front rest far false h = h

place_front : (F : Tree) (front rest : Path) → (r : Path) × (front ++ rest ≡ place_from F front rest ++ r)
place_front F front [] = ([], refl)
place_front F front (n ∷ rest) =
    let h = place_front F (front ++ n ∷ []) rest in
    front_by front (n ∷ rest) (place_from F (front ++ n ∷ []) rest) (is_unlisted (F front)) (h.0, sym (append_assoc front (n ∷ []) rest) ∙ h.1)

pub place_is_front : PlaceIsFront
place_is_front F p = place_front F [] p

long_by : (front far : Path) (b : Bool) → length front ≤ length far → length front ≤ length (cond b front far)
long_by front far true h = omega arith
long_by front far false h = h

pub place_long : (F : Tree) (front rest : Path) → length front ≤ length (place_from F front rest)
place_long F front [] = omega arith
place_long F front (n ∷ rest) =
    let h = place_long F (front ++ n ∷ []) rest in
    long_by front (place_from F (front ++ n ∷ []) rest) (is_unlisted (F front)) (omega (arith, h, length-append front (n ∷ [])))

-- ---- a loaded directory stays loaded

loaded_standing : (y : Row) (at : ℕ) (unsaved : Bool) → (standing y).loaded ≡ Some (at, unsaved) → (d : Directory) × (child_of y ≡ Some d)
loaded_standing y at unsaved is = let h = map_some (λ (d : Directory). (d.stamp, d.unsaved)) (child_of y) (at, unsaved) (sym is) in (h.0, h.1.0)

pub stays_loaded : (x z : Row) (p : Path) → Grows x z → IsKnownLoadedAt p x → IsKnownLoadedAt p z
stays_loaded x z p grows is =
    let y = known_dir x p is in
    let d = y.1.1.0 in
    let v = grows.there p (standing y.0) (ap (option_map standing) y.1.0) in
    let w = map_some standing (row_at p z) v.0 (sym v.1.0) in
    let up = v.1.1.loaded d.stamp d.unsaved (ap (option_map (λ (e : Directory). (e.stamp, e.unsaved))) y.1.1.1) in
    let e = loaded_standing w.0 up.0 d.unsaved (ap (λ (s : Standing). s.loaded) w.1.1 ∙ up.1) in
    known_at z p w.0 (Dir true) w.1.0 (known_loaded w.0 e.0 e.1)

module _ (x z : Row) (grows : Grows x z) where
  deeper_by : (front : Path) (n : Name) (rest : Path) (o : Option Node) → known x front ≡ o → through o (walk_from (known x) (front ++ n ∷ []) rest) ≡ Unlisted
      → IsKnownLoadedAt (cond (is_unlisted o) front (place_from (known x) (front ++ n ∷ []) rest)) z
      → (walk_from (known x) (front ++ n ∷ []) rest ≡ Unlisted → IsKnownLoadedAt (place_from (known x) (front ++ n ∷ []) rest) z
      → length (place_from (known x) (front ++ n ∷ []) rest) < length (place_from (known z) (front ++ n ∷ []) rest))
      → length (cond (is_unlisted o) front (place_from (known x) (front ++ n ∷ []) rest)) < length (cond (is_unlisted (known z front)) front (place_from (known z) (front ++ n ∷ []) rest))
  deeper_by front n rest None at w l on = cc
  deeper_by front n rest (Some (File e c)) at w l on = cc
  deeper_by front n rest (Some (Link c)) at w l on = cc
  deeper_by front n rest (Some (Dir true)) at w l on =
      subst (λ (o : Option Node). length (place_from (known x) (front ++ n ∷ []) rest) < length (cond (is_unlisted o) front (place_from (known z) (front ++ n ∷ []) rest)))
      (sym (stays_loaded x z front grows at)) (on w l)
  deeper_by front n rest (Some (Dir false)) at w l on =
      let long = place_long (known z) (front ++ n ∷ []) rest in
      subst (λ (o : Option Node). length front < length (cond (is_unlisted o) front (place_from (known z) (front ++ n ∷ []) rest))) (sym l)
      (omega (arith, long, length-append front (n ∷ [])))

  deeper_from : (front rest : Path) → walk_from (known x) front rest ≡ Unlisted → IsKnownLoadedAt (place_from (known x) front rest) z
      → length (place_from (known x) front rest) < length (place_from (known z) front rest)
  deeper_from front [] w l = cc
  deeper_from front (n ∷ rest) w l = deeper_by front n rest (known x front) refl w l (λ a b. deeper_from (front ++ n ∷ []) rest a b)

pub next_is_deeper : NextIsDeeper
next_is_deeper x z p grows w l = deeper_from x z grows [] p w l
