-- A way that is cleared for an entry: it can go to the other path.
use Rattle.std.proofs.Common.{◌≡◌, ℕ, [], ◌∷◌, ◌++◌, Some, refl, sym, ap, ◌∙◌, subst, inl, inr}
use Rattle.std.specs.Option.{option_map, is_some}
use Rattle.eden_model.specs.Paths.{behind_of}
use Rattle.eden_model.specs.Trees.{Name, Path}
use Rattle.eden_model.specs.declared.kind.Kind.{Kind}
use Rattle.eden_tree.specs.Directory.{Row, child_of}
use Rattle.eden_tree.specs.Paths.{row_at}
use Rattle.eden_coupling.specs.Chains.{IsLoadedAt, StaysLoaded}
use Rattle.eden_coupling.specs.Laws.{owned}
use Rattle.eden_coupling.specs.Materialising.{owned_along}
use Rattle.eden_coupling.proofs.CallerLemmas.{map_some}
use Rattle.eden_ops.specs.Carrying.{CanCarry, IsBareAt, IsOwnAt, StaysToThere}
use Rattle.eden_ops.specs.Changes.{SameNames}
use Rattle.eden_ops.specs.Letting.{LetsGo}
use Rattle.eden_ops.specs.Relocating.{CanRelocate, IsUnloadedAt, StaysBeside, both_owned}
use Rattle.eden_ops.proofs.Changing.{none_held}
use Rattle.eden_ops.proofs.Going.{loaded_elsewhere}
use Rattle.eden_ops.proofs.Growing.{never}
use Rattle.eden_ops.proofs.Owned.{is_held, owned_held, owned_own, owned_still}
use Rattle.eden_ops.proofs.Relocation.{above_loaded, not_front, not_whole}

-- a path has one directory above it
pub same_above : (p q : Path) (n m : Name) → p ++ n ∷ [] ≡ q ++ m ∷ [] → p ≡ q
same_above [] [] n m is = refl
same_above [] (b ∷ q) n m is = let rest : [] ≡ q ++ m ∷ [] = cc in absurd (never q m [] rest)
same_above (a ∷ p) [] n m is = let rest : [] ≡ p ++ n ∷ [] = cc in absurd (never p n [] rest)
same_above (a ∷ p) (b ∷ q) n m is =
    let first : a ≡ b = cc in
    let rest : p ++ n ∷ [] ≡ q ++ m ∷ [] = cc in
    ap (λ (k : Name). k ∷ p) first ∙ ap (λ (t : Path). b ∷ t) (same_above p q n m rest)

-- the number and the kind of an entry
abbrev numbered : Row → ℕ × Kind
numbered y = (y.number, y.kind)

module _ {x a : Row} {from to : Path} (may : CanRelocate x from to) (one : StaysToThere from x a) where
  -- the directory above the other path
  above_still : (q : Path) (m : Name) → to ≡ q ++ m ∷ [] → IsLoadedAt q a
  above_still q m cut = one q (inl (not_front from q m (ap (behind_of from) (sym cut) ∙ may.not_below))) (may.above q m cut)

  -- the entry itself
  pub there_still : IsLoadedAt from x → IsLoadedAt from a
  there_still loaded = one from (inr refl) loaded

  pub beside_first : StaysBeside from to x a
  beside_first q off other loaded = one q (inl off) loaded

  module _ {b : Row} (two : LetsGo to a b) where
    pub beside_second : StaysBeside from to x b
    beside_second q off other loaded = loaded_elsewhere to a b two q other (one q (inl off) loaded)

    pub loaded_second : IsLoadedAt from x → IsLoadedAt from b
    loaded_second loaded = loaded_elsewhere to a b two from may.not_above (there_still loaded)

    pub above_second : (q : Path) (m : Name) → to ≡ q ++ m ∷ [] → IsLoadedAt q b
    above_second q m cut = loaded_elsewhere to a b two q (ap (λ (r : Path). behind_of r q) cut ∙ not_whole q m) (above_still q m cut)

    -- the directory above the entry
    pub front_second : (p : Path) (n : Name) → from ≡ p ++ n ∷ [] → IsLoadedAt p b
    front_second p n split =
        loaded_elsewhere to a b two p (not_front to p n (ap (behind_of to) (sym split) ∙ may.not_above))
        (one p (inl (ap (λ (r : Path). behind_of r p) split ∙ not_whole p n)) (above_loaded x may.row from p n split may.there))

    module _ (p : Path) (n : Name) (q : Path) (m : Name) (split : from ≡ p ++ n ∷ []) (cut : to ≡ q ++ m ∷ []) (z : Row) (is : z ≡ both_owned p q b) (stays : StaysLoaded b z) where
      abbrev half : Row
      half = owned (owned_along p b)

      held_alike : (r : Path) → option_map is_held (row_at r z) ≡ option_map is_held (row_at r b)
      held_alike r = ap (λ (c : Row). option_map is_held (row_at r c)) is ∙ owned_held q r half ∙ owned_held p r b

      still_away : (r : Path) → IsUnloadedAt r b → IsUnloadedAt r z
      still_away r none w at =
          let y = map_some is_held (row_at r b) (is_held w) (sym (ap (option_map is_held) at) ∙ held_alike r) in
          none_held (child_of w) (sym y.1.1 ∙ ap is_some (none y.0 y.1.0))

      -- the entry is there, with its number
      there_then : SameNames x z → (y : Row) × (row_at from z ≡ Some y)
      there_then names =
          let same = names p n (above_loaded x may.row from p n split may.there) (stays p (front_second p n split)) in
          let P : Path → Type 0 = λ r. option_map numbered (row_at r z) ≡ option_map numbered (row_at r x) in
          let y = map_some numbered (row_at from z) (numbered may.row) (sym (subst P (sym split) same ∙ ap (option_map numbered) may.there)) in
          (y.0, y.1.0)

      pub can_carry : SameNames x z → IsUnloadedAt to b → IsBareAt from z → CanCarry z from to
      can_carry names away bare =
          let y = there_then names in
          record {
            can = record {
              row = y.0;
              there = y.1;
              above = λ r k up. stays r (above_second r k up);
              not_below = may.not_below;
              not_above = may.not_above;
            };
            bare = bare;
            to_unloaded = still_away to away;
            own_from = λ r k up. subst (λ (s : Path). IsOwnAt s z) (same_above p r n k (sym split ∙ up)) (subst (IsOwnAt p) (sym is) (owned_still q p half (owned_own p b)));
            own_to = λ r k up. subst (λ (s : Path). IsOwnAt s z) (same_above q r m k (sym cut ∙ up)) (subst (IsOwnAt q) (sym is) (owned_own q half));
          }
