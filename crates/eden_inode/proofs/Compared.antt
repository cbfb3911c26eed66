-- Listings compared entry by entry, and why a file has no numbers for a tree object.
use Rattle.std.proofs.Common.{◌≡◌, ◌≢◌, ◌<◌, ℕ, suc, Bool, true, false, List, [], ◌∷◌, length, map, Some, inl, inr, refl, ap, subst, ◌+◌, ◌∙◌, arith}
use Rattle.std.specs.Prelude.{◌&&◌, not}
use Rattle.std.specs.List.{slice_get}
use Rattle.std.specs.Option.{option_map}
use Rattle.std.proofs.lemmas.Bool.{cases_lt}
use Rattle.std.proofs.lemmas.Option.{slice_get-map, same_Some}
use Rattle.eden_model.specs.declared.kind.Origin.{Origin}
use Rattle.eden_model.specs.declared.kind.Origin.TheVariants as origin
use Rattle.eden_model.specs.Trees.{Name}
use Rattle.eden_overlay_format.specs.Directory.{is_own}
use Rattle.eden_overlay_format.specs.Numbers.{none_is_own}
use Rattle.eden_tree.specs.Directory.{Row, Directory}
use Rattle.eden_coupling.specs.Listings.{listing_of, stored_entry}

-- ---- lists

-- lists of the same elements, place by place
pub same_list : {X : Type 0} (xs ys : List X) → length xs ≡ length ys → ((j : ℕ) → j < length xs → slice_get xs j ≡ slice_get ys j) → xs ≡ ys
same_list [] [] long each = refl
same_list [] (y ∷ ys) long each = absurd (omega (arith, long))
same_list (x ∷ xs) [] long each = absurd (omega (arith, long))
same_list (x ∷ xs) (y ∷ ys) long each =
    ap (λ a. a ∷ xs) (same_Some x y (each 0 (omega arith)))
    ∙ ap (λ l. y ∷ l) (same_list xs ys (omega (arith, long)) (λ j within. each (suc j) (omega (arith, within))))

-- what stands at a place of a listing
pub listed_at : (d : Directory) (i : ℕ) (e : Name × Row) → slice_get d.rows i ≡ Some e → slice_get (listing_of d) i ≡ Some (stored_entry e)
listed_at d i e h = slice_get-map stored_entry d.rows i ∙ ap (option_map stored_entry) h

pub longer : {X Y : Type 0} (f : X → Y) (xs : List X) → length (map f xs) ≡ length xs
longer f [] = refl
longer f (x ∷ xs) = ap suc (longer f xs)

pub by_turn : (j i : ℕ) (P : ℕ → Type 0) → j < i + 1 → ((k : ℕ) → k < i → P k) → P i → P j
by_turn j i P less before here = elim (cases_lt j i) [ inl b ↦ before j b | inr from ↦ subst P {x = i} (omega (arith, from, less)) here ]

-- ---- entries that aren't the mount's own

other_is : (o : Origin) → o ≢ origin.Own → is_own o ≡ false
other_is (origin.Object id) other = refl
other_is origin.Own other = absurd (other refl)
other_is origin.Empty other = refl

pub none_owned : (rows : List (Name × Row)) → ((j : ℕ) (e : Name × Row) → j < length rows → slice_get rows j ≡ Some e → e.1.origin ≢ origin.Own) → none_is_own (map stored_entry rows) ≡ true
none_owned [] each = refl
none_owned (r ∷ rows) each =
    ap (λ (b : Bool). not b && none_is_own (map stored_entry rows)) (other_is r.1.origin (each 0 r (omega arith) refl))
    ∙ none_owned rows (λ j e within h. each (suc j) e (omega (arith, within)) h)
