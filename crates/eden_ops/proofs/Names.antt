-- Loaded directories that have the same names, each with its number and its kind.
use Rattle.std.proofs.Common.{◌≡◌, ℕ, Bool, true, [], ◌∷◌, ◌++◌, Option, Some, None, sym, refl, ◌∙◌, ap, subst}
use Rattle.std.specs.Option.{option_map, is_some}
use Rattle.eden_model.specs.declared.kind.Kind.{Kind}
use Rattle.eden_model.specs.declared.node.Node.TheVariants.{Dir}
use Rattle.eden_model.specs.Trees.{Path}
use Rattle.eden_tree.specs.Directory.{Row, Directory, child_of}
use Rattle.eden_tree.specs.Paths.{row_at, Standing, standing, standing_at}
use Rattle.eden_coupling.specs.Chains.{IsLoadedAt, StaysLoaded}
use Rattle.eden_coupling.proofs.CallerLemmas.{map_some, loaded_there, loaded_found}
use Rattle.eden_ops.specs.Changes.{numbered_at, SameNames}
use Rattle.eden_ops.specs.Laws.{Stays, Grows}
use Rattle.eden_ops.proofs.Bare.{Bare, bare}
use Rattle.eden_ops.proofs.Meeting.{some_of}
use Rattle.eden_ops.proofs.Walking.{known_at, known_loaded}

pub names_same : (x z : Row) → z ≡ x → SameNames x z
names_same x z is p n was now = ap (numbered_at (p ++ n ∷ [])) is

pub fewer_same : (x z : Row) → z ≡ x → StaysLoaded z x
fewer_same x z is p now = subst (IsLoadedAt p) is now

-- one change after the other, where what is loaded before and after is so between them
pub names_on : (x y z : Row) → ((p : Path) → IsLoadedAt p x → IsLoadedAt p z → IsLoadedAt p y) → SameNames x y → SameNames y z → SameNames x z
names_on x y z between a b p n was now = let on = between p was now in b p n on now ∙ a p n was on

-- ---- by entries as they stand

abbrev pub numbered : Standing → ℕ × Kind
numbered v = (v.number, v.kind)

pub numbered_standing : (p : Path) (x : Row) → numbered_at p x ≡ option_map numbered (standing_at p x)
numbered_standing p x = by (row_at p x) where
  by : (o : Option Row) → option_map (λ (y : Row). (y.number, y.kind)) o ≡ option_map numbered (option_map standing o)
  by None = refl
  by (Some y) = refl

stays_numbered : (y v : Standing) → Stays y v → numbered v ≡ numbered y
stays_numbered y v s = ap (λ (k : ℕ). (k, v.kind)) s.number ∙ ap (λ (k : Kind). (y.number, k)) s.kind

-- directories were loaded
pub names_grown : (x z : Row) → Grows x z → SameNames x z
names_grown x z g p n was now = numbered_standing (p ++ n ∷ []) z ∙ by (standing_at (p ++ n ∷ []) x) refl ∙ sym (numbered_standing (p ++ n ∷ []) x) where
  by : (o : Option Standing) → standing_at (p ++ n ∷ []) x ≡ o → option_map numbered (standing_at (p ++ n ∷ []) z) ≡ option_map numbered (standing_at (p ++ n ∷ []) x)
  by None is =
      let l = loaded_found p x was in
      let none = g.absent p n (known_at x p l.row (Dir true) l.at (known_loaded l.row l.directory l.holds)) is in
      ap (option_map numbered) (none ∙ sym is)
  by (Some y) is =
      let v = g.there (p ++ n ∷ []) y is in
      ap (option_map numbered) v.1.0 ∙ ap (λ (e : ℕ × Kind). Some e) (stays_numbered y v.0 v.1.1) ∙ sym (ap (option_map numbered) is)

-- ---- where each entry has the number and the kind that it had, and is loaded where it was

abbrev pub face : Bare → (ℕ × Kind) × Bool
face b = ((b.number, b.kind), b.loaded)

abbrev pub face_at : Path → Row → Option ((ℕ × Kind) × Bool)
face_at p x = option_map face (option_map bare (row_at p x))

numbered_face : (p : Path) (x : Row) → numbered_at p x ≡ option_map (λ (a : (ℕ × Kind) × Bool). a.0) (face_at p x)
numbered_face p x = by (row_at p x) where
  by : (o : Option Row) → option_map (λ (y : Row). (y.number, y.kind)) o ≡ option_map (λ (a : (ℕ × Kind) × Bool). a.0) (option_map face (option_map bare o))
  by None = refl
  by (Some y) = refl

module _ (x z : Row) (alike : (p : Path) → face_at p z ≡ face_at p x) where
  pub names_alike : SameNames x z
  names_alike p n was now =
      let q = p ++ n ∷ [] in
      numbered_face q z ∙ ap (option_map (λ (a : (ℕ × Kind) × Bool). a.0)) (alike q) ∙ sym (numbered_face q x)

  pub fewer_alike : StaysLoaded z x
  fewer_alike p now =
      let l = loaded_found p z now in
      let is : face_at p x ≡ Some (face (bare l.row)) = sym (alike p) ∙ ap (λ (o : Option Row). option_map face (option_map bare o)) l.at in
      let b = map_some face (option_map bare (row_at p x)) (face (bare l.row)) (sym is) in
      let y = map_some bare (row_at p x) b.0 (sym b.1.0) in
      let on : is_some (child_of y.0) ≡ true = ap (λ (c : Bare). c.loaded) y.1.1 ∙ ap (λ (a : (ℕ × Kind) × Bool). a.1) b.1.1 ∙ ap (λ (o : Option Directory). is_some o) l.holds in
      let d = some_of (child_of y.0) true (sym on) refl in
      loaded_there p x y.0 d.0 y.1.0 d.1
