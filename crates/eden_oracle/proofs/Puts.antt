-- Rows where one path is given something else, or nothing.
use Rattle.std.proofs.Common.{◌≡◌, List, [], ◌∷◌, ◌++◌, sym, refl, ◌∙◌, ap, Option, Some, None, Bool, true, false, cond}
use Rattle.std.specs.Prelude.{filter}
use Rattle.std.specs.Option.{option_or}
use Rattle.std.proofs.Math.Path.{fun_ext}
use Rattle.std.proofs.lemmas.Cmp.{lists_equiv, nat_list_eq_equiv}
use Rattle.std.proofs.lemmas.Map.Entries.{lookup-filter-keys}
use Rattle.eden_model.specs.Paths.{path_eq}
use Rattle.eden_model.specs.Trees.{Path}
use Rattle.eden_model.specs.Operations.{put}
use Rattle.eden_oracle.specs.Rows.{tree_of}
use Rattle.eden_model.proofs.CallerLemmas.{path_eq-Decides}
use Rattle.eden_oracle.proofs.Lookups.{lookup-push}

turned : (p q : Path) → path_eq p q ≡ path_eq q p
turned p q = (lists_equiv nat_list_eq_equiv).symm p q

abbrev pub elsewhere : Path → Path → Bool
elsewhere p q = cond (path_eq q p) false true

left_out : {X : Type 0} (b c : Bool) (o : Option X) → c ≡ b → cond (cond b false true) o None ≡ cond c None o
left_out true true o e = refl
left_out true false o e = cc
left_out false true o e = cc
left_out false false o e = refl

pub without : {X : Type 0} (rows : List (Path × X)) (p : Path) → tree_of (filter (λ r. elsewhere p r.0) rows) ≡ put (tree_of rows) p None
without rows p = fun_ext (λ q.
    lookup-filter-keys (path_eq q) (elsewhere p) (elsewhere p q) (λ k t. ap (elsewhere p) (sym ((path_eq-Decides q k).0 t))) rows
    ∙ left_out (path_eq q p) (path_eq p q) (tree_of rows q) (turned p q))

put_in : {X : Type 0} (b c : Bool) (o : Option X) (v : X) → c ≡ b → option_or (cond c None o) (cond b (Some v) None) ≡ cond c (Some v) o
put_in true true o v e = refl
put_in true false o v e = cc
put_in false true o v e = cc
put_in false false None v e = refl
put_in false false (Some w) v e = refl

pub with_row : {X : Type 0} (F : Path → Option X) (rows : List (Path × X)) (p : Path) (v : X) → tree_of rows ≡ put F p None → tree_of (rows ++ (p, v) ∷ []) ≡ put F p (Some v)
with_row {X = X} F rows p v e = fun_ext (λ q.
    lookup-push (path_eq q) rows p v
    ∙ ap (λ (G : Path → Option X). option_or (G q) (cond (path_eq q p) (Some v) None)) e
    ∙ put_in (path_eq q p) (path_eq p q) (F q) v (turned p q))
