-- Directories along a path that became the mount's own: which entries are there.
use Rattle.std.proofs.Common.{◌≡◌, Bool, true, false, cond, [], ◌∷◌, Option, Some, None, Result, Ok, Err, OnOk, OnErr, sym, refl, ◌∙◌, ap, subst}
use Rattle.std.proofs.lemmas.List.{append-nil}
use Rattle.std.specs.Option.{option_map, option_and_then, is_some}
use Rattle.std.specs.Str.{bytes_eq}
use Rattle.eden_model.specs.declared.fault.Fault.{Fault}
use Rattle.eden_model.specs.declared.kind.Origin.TheVariants as origin
use Rattle.eden_model.specs.Paths.{behind_of}
use Rattle.eden_model.specs.Trees.{Name, Path, grafted}
use Rattle.eden_model.proofs.CallerLemmas.{behind_back}
use Rattle.eden_tree.specs.Directory.{Row, Directory, child_of}
use Rattle.eden_tree.specs.Rows.{find_row, change_row}
use Rattle.eden_tree.specs.Paths.{row_at}
use Rattle.eden_tree.proofs.CallerLemmas.{same-≡, child_of-change_child, find_row-change_row}
use Rattle.eden_coupling.specs.Chains.{StaysLoaded}
use Rattle.eden_coupling.specs.Laws.{owned}
use Rattle.eden_coupling.specs.Materialising.{kept_mark, owned_along}
use Rattle.eden_coupling.proofs.CallerLemmas.{map_some}
use Rattle.eden_ops.specs.Carrying.{IsOwnAt}
use Rattle.eden_ops.specs.Changes.{SameNames}
use Rattle.eden_ops.proofs.Bare.{Bare, some_pair, bare}
use Rattle.eden_ops.proofs.Names.{names_same, fewer_same, face, face_at, names_alike, fewer_alike}

-- an entry of the chain
abbrev owns : Bare → Bare
owns b = record { number = b.number; kind = b.kind; origin = origin.Own; loaded = b.loaded }

-- what stands at a path below an entry that may be there
abbrev below : Path → Option Row → Option Bare
below q o = option_map bare (option_and_then (row_at q) o)

nothing_grafted : {X : Type 0} (o : Option Path) → grafted {X = Option X} o (λ r. None) None ≡ None
nothing_grafted None = refl
nothing_grafted (Some r) = refl

abbrev step : Name → Path → Directory → Directory
step n p d = record d { rows = change_row n (λ z. owned (owned_along p z)) d.rows; unsaved = kept_mark (find_row n d.rows) d.unsaved }

-- each entry is as it was, but that the directories of the chain are their own
pub owned_bare : (p q : Path) (x : Row)
    → option_map bare (row_at q (owned (owned_along p x))) ≡ grafted (behind_of q p) (λ r. option_map owns (option_map bare (row_at q x))) (option_map bare (row_at q x))
owned_bare [] [] x = refl
owned_bare (n ∷ p) [] x = ap (λ (l : Bool). Some (record { number = x.number; kind = x.kind; origin = origin.Own; loaded = l }))
    (ap is_some (child_of-change_child (step n p) x) ∙ some_pair (step n p) (child_of x))
owned_bare [] (m ∷ q) x = refl
owned_bare (n ∷ p) (m ∷ q) x =
    ap (λ (o : Option Directory). option_map bare (option_and_then (λ (d : Directory). option_and_then (row_at q) (find_row m d.rows)) o)) (child_of-change_child (step n p) x)
    ∙ elim (child_of x) as (λ o. option_map bare (option_and_then (λ (d : Directory). option_and_then (row_at q) (find_row m d.rows)) (option_map (step n p) o))
    ≡ grafted (cond (bytes_eq m n) (behind_of q p) None) (λ r. option_map owns (option_map bare (option_and_then (λ (d : Directory). option_and_then (row_at q) (find_row m d.rows)) o)))
    (option_map bare (option_and_then (λ (d : Directory). option_and_then (row_at q) (find_row m d.rows)) o))) [
      | None ↦ sym (nothing_grafted (cond (bytes_eq m n) (behind_of q p) None))
      | Some d ↦ ap (below q) (find_row-change_row m n (λ z. owned (owned_along p z)) d.rows)
          ∙ elim (bytes_eq m n) as (λ b. bytes_eq m n ≡ b → below q (cond b (option_map (λ z. owned (owned_along p z)) (find_row n d.rows)) (find_row m d.rows))
          ≡ grafted (cond b (behind_of q p) None) (λ r. option_map owns (below q (find_row m d.rows))) (below q (find_row m d.rows))) [
            | true ↦ λ t. ap (λ (i : Name). below q (option_map (λ z. owned (owned_along p z)) (find_row i d.rows))) (sym (same-≡ m n t))
                ∙ elim (find_row m d.rows) as (λ o. below q (option_map (λ z. owned (owned_along p z)) o) ≡ grafted (behind_of q p) (λ r. option_map owns (below q o)) (below q o)) [
                  | None ↦ sym (nothing_grafted (behind_of q p))
                  | Some y ↦ owned_bare p q y
                ]
            | false ↦ λ t. refl
          ] refl
    ]

-- ---- what follows for one entry

-- whether an entry is a loaded directory
abbrev pub is_held : Row → Bool
is_held y = is_some (child_of y)

held_bare : (o : Option Row) → option_map is_held o ≡ option_map (λ (b : Bare). b.loaded) (option_map bare o)
held_bare None = refl
held_bare (Some y) = refl

held_owned : (g : Option Path) (o : Option Bare) → option_map (λ (b : Bare). b.loaded) (grafted g (λ r. option_map owns o) o) ≡ option_map (λ (b : Bare). b.loaded) o
held_owned None o = refl
held_owned (Some r) None = refl
held_owned (Some r) (Some b) = refl

-- the same entries are there, and the same are loaded
pub owned_held : (p q : Path) (x : Row) → option_map is_held (row_at q (owned (owned_along p x))) ≡ option_map is_held (row_at q x)
owned_held p q x =
    held_bare (row_at q (owned (owned_along p x)))
    ∙ ap (option_map (λ (b : Bare). b.loaded)) (owned_bare p q x)
    ∙ held_owned (behind_of q p) (option_map bare (row_at q x))
    ∙ sym (held_bare (row_at q x))

face_owned : (g : Option Path) (o : Option Bare) → option_map face (grafted g (λ r. option_map owns o) o) ≡ option_map face o
face_owned None o = refl
face_owned (Some r) None = refl
face_owned (Some r) (Some b) = refl

-- .. with the same numbers and kinds
owned_face : (p q : Path) (x : Row) → face_at q (owned (owned_along p x)) ≡ face_at q x
owned_face p q x = ap (option_map face) (owned_bare p q x) ∙ face_owned (behind_of q p) (option_map bare (row_at q x))

-- .. so names are the same, also where nothing changed
pub own_names : (a : Result (Unit {0}) Fault) (p : Path) (x z : Row) → OnOk a (z ≡ owned (owned_along p x)) → OnErr a (z ≡ x) → SameNames x z
own_names (Ok u) p x z ok err = subst (SameNames x) (sym ok) (names_alike x (owned (owned_along p x)) (λ q. owned_face p q x))
own_names (Err e) p x z ok err = names_same x z err

pub own_fewer : (a : Result (Unit {0}) Fault) (p : Path) (x z : Row) → OnOk a (z ≡ owned (owned_along p x)) → OnErr a (z ≡ x) → StaysLoaded z x
own_fewer (Ok u) p x z ok err = subst (λ (y : Row). StaysLoaded y x) (sym ok) (fewer_alike x (owned (owned_along p x)) (λ q. owned_face p q x))
own_fewer (Err e) p x z ok err = fewer_same x z err

own_there : (o : Option Bare) (was : Option Row) (y : Row) → was ≡ Some y → option_map bare was ≡ option_map owns o → y.origin ≡ origin.Own
own_there o was y at is = let b = map_some owns o (bare y) (sym (ap (option_map bare) at) ∙ is) in sym (ap (λ (c : Bare). c.origin) b.1.1)

pub behind_itself : (p : Path) → behind_of p p ≡ Some []
behind_itself p = ap (behind_of p) (sym (append-nil p)) ∙ behind_back p []

-- the lowest directory of the chain
pub owned_own : (p : Path) (x : Row) → IsOwnAt p (owned (owned_along p x))
owned_own p x y at =
    own_there (option_map bare (row_at p x)) (row_at p (owned (owned_along p x))) y at
    (owned_bare p p x ∙ ap (λ (o : Option Path). grafted o (λ r. option_map owns (option_map bare (row_at p x))) (option_map bare (row_at p x))) (behind_itself p))

-- .. and one that was its own already
pub owned_still : (p q : Path) (x : Row) → IsOwnAt q x → IsOwnAt q (owned (owned_along p x))
owned_still p q x own y at = by (behind_of q p) (owned_bare p q x) where
  by : (g : Option Path) → option_map bare (row_at q (owned (owned_along p x))) ≡ grafted g (λ r. option_map owns (option_map bare (row_at q x))) (option_map bare (row_at q x)) → y.origin ≡ origin.Own
  by None is = let v = map_some bare (row_at q x) (bare y) (sym (ap (option_map bare) at) ∙ is) in sym (ap (λ (c : Bare). c.origin) v.1.1) ∙ own v.0 v.1.0
  by (Some r) is = own_there (option_map bare (row_at q x)) (row_at q (owned (owned_along p x))) y at is
