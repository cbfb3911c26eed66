-- The children of a directory, row by row.
use Rattle.std.proofs.Common.{◌≡◌, ℕ, ◌+◌, ◌<◌, List, [], ◌∷◌, ◌++◌, length, get_or, take, sym, refl, ◌∙◌, ap, Option, Some, None, Bool, true, false, cond}
use Rattle.std.specs.Prelude.{if◌then◌else◌, ◌&&◌}
use Rattle.std.specs.Map.{lookup}
use Rattle.std.specs.Option.{IsSome, option_map, option_or, option_copied, is_some}
use Rattle.std.specs.Str.{bytes_eq}
use Rattle.std.specs.Cmp.Lexicographic.{nat_list_eq_equiv}
use denote.Ref.{Bor}
use Rattle.std.proofs.lemmas.List.{take_more}
use Rattle.std.proofs.lemmas.List.Elements.{All-from_recursion, All-get_or}
use Rattle.std.proofs.lemmas.Map.{none_passes_from_lookup}
use Rattle.eden_model.specs.declared.kind.Kind.{Kind}
use Rattle.eden_model.specs.declared.node.Node.{Node}
use Rattle.eden_model.specs.Paths.{path_eq, behind_of}
use Rattle.eden_oracle.specs.Fronts.{only_name}
use Rattle.eden_model.specs.Trees.{Path, Name}
use Rattle.eden_model.specs.Operations.{kind_of}
use Rattle.eden_oracle.proofs.Lookups.{lookup-push}

abbrev pub is_named : Name → Option Name → Bool
is_named n None = false
is_named n (Some m) = bytes_eq n m

and_true : (b : Bool) → (b && true) ≡ b
and_true true = refl
and_true false = refl

and_false : (b : Bool) → (b && false) ≡ false
and_false true = refl
and_false false = refl

under_head : (b : Bool) (t : Bool) (n : Name) (o : Option Path) → t ≡ is_named n (only_name o) → (b && t) ≡ is_named n (only_name (cond b o None))
under_head true t n o e = e
under_head false t n o e = refl

-- the path one longer, by the name that stands behind the front
pub child_test : (d q : Path) (n : Name) → path_eq (d ++ n ∷ []) q ≡ is_named n (only_name (behind_of d q))
child_test [] [] n = refl
child_test [] (m ∷ []) n = and_true (bytes_eq n m)
child_test [] (m ∷ k ∷ q) n = and_false (bytes_eq n m)
child_test (x ∷ d) [] n = refl
child_test (x ∷ d) (y ∷ q) n = under_head (bytes_eq x y) (path_eq (d ++ n ∷ []) q) n (behind_of d q) (child_test d q n)

option_map-first : {A B : Type 0} (f : A → B) (x y : Option A) → option_map f (option_or x y) ≡ option_or (option_map f x) (option_map f y)
option_map-first f None y = refl
option_map-first f (Some v) y = refl

map_one : {A B : Type 0} (f : A → B) (b : Bool) (v : A) → option_map f (cond b (Some v) None) ≡ cond b (Some (f v)) None
map_one f true v = refl
map_one f false v = refl

unseen : (o : Option Kind) (b : Bool) (k : Kind) → b ≡ false → o ≡ option_or o (cond b (Some k) None)
unseen (Some v) b k e = refl
unseen None true k e = cc
unseen None false k e = refl

-- a row that is no child
pub not_child : (d q : Path) (n : Name) (o : Option Kind) (k : Kind) → None ≡ only_name (behind_of d q) → o ≡ option_or o (if path_eq (d ++ n ∷ []) q then Some k else None)
not_child d q n o k e = unseen o (path_eq (d ++ n ∷ []) q) k (child_test d q n ∙ ap (is_named n) (sym e))

-- a row that is a child
pub a_child : (d q : Path) (n m : Name) (o new : Option Kind) (j k : Kind) → Some m ≡ only_name (behind_of d q) → j ≡ k → new ≡ option_or o (if bytes_eq n m then Some j else None)
    → new ≡ option_or o (if path_eq (d ++ n ∷ []) q then Some k else None)
a_child d q n m o new j k e same is =
    is ∙ ap (λ (x : Kind). option_or o (cond (bytes_eq n m) (Some x) None)) same
    ∙ ap (λ (b : Bool). option_or o (cond b (Some k) None)) (sym (child_test d q n ∙ ap (is_named n) (sym e)))

-- one more row
pub children_more : (rows : List (Path × Node)) (d : Path) (n : Name) (i : ℕ) (row : Path × Node) (old new : Option Kind) → i < length rows → row ≡ get_or rows i row
    → old ≡ option_map kind_of (lookup (path_eq (d ++ n ∷ [])) (take i rows))
    → new ≡ option_or old (if path_eq (d ++ n ∷ []) row.0 then Some (kind_of row.1) else None)
    → new ≡ option_map kind_of (lookup (path_eq (d ++ n ∷ [])) (take (i + 1) rows))
children_more rows d n i row old new lt at was is =
    let test : Path → Bool = path_eq (d ++ n ∷ []) in
    is ∙ ap (λ (o : Option Kind). option_or o (cond (test row.0) (Some (kind_of row.1)) None)) was
    ∙ ap (λ (o : Option Kind). option_or (option_map kind_of (lookup test (take i rows))) o) (sym (map_one kind_of (test row.0) row.1))
    ∙ sym (option_map-first kind_of (lookup test (take i rows)) (cond (test row.0) (Some row.1) None))
    ∙ ap (option_map kind_of) (sym (lookup-push test (take i rows) row.0 row.1))
    ∙ ap (λ (r : Path × Node). option_map kind_of (lookup test (take i rows ++ r ∷ []))) at
    ∙ ap (λ (xs : List (Path × Node)). option_map kind_of (lookup test xs)) (sym (take_more rows i row lt))

-- ---- a directory without children

abbrev pub NoChildren : List (Path × Node) → Path → Type 0
NoChildren rows d = (n : Name) → lookup (path_eq (d ++ n ∷ [])) rows ≡ None

pub no_child_more : (rows : List (Path × Node)) (d : Path) (i : ℕ) (row : Path × Node) → i < length rows → row ≡ get_or rows i row → only_name (behind_of d row.0) ≡ None
    → NoChildren (take i rows) d → NoChildren (take (i + 1) rows) d
no_child_more rows d i row lt at none h n =
    ap (lookup (path_eq (d ++ n ∷ []))) (take_more rows i row lt ∙ ap (λ (r : Path × Node). take i rows ++ r ∷ []) (sym at))
    ∙ lookup-push (path_eq (d ++ n ∷ [])) (take i rows) row.0 row.1
    ∙ ap (λ (b : Bool). option_or (lookup (path_eq (d ++ n ∷ [])) (take i rows)) (cond b (Some row.1) None)) (child_test d row.0 n ∙ ap (is_named n) none)
    ∙ ap (λ (o : Option Node). option_or o None) (h n)

seen_by : (test : Path → Bool) (rows : List (Path × Node)) (i : ℕ) (row : Path × Node) (o : Option Node) → i < length rows → row ≡ get_or rows i row → test row.0 ≡ true → lookup test rows ≡ o
    → IsSome o
seen_by test rows i row None lt at passes e =
    let not : test (get_or rows i row).0 ≡ false = All-get_or (λ (r : Path × Node). test r.0 ≡ false) rows i row lt (All-from_recursion _ rows (none_passes_from_lookup test rows e)) in
    let x : true ≡ false = sym passes ∙ ap (λ (r : Path × Node). test r.0) at ∙ not in
    cc
seen_by test rows i row (Some v) lt at passes e = refl

-- a row that is a child
pub some_child : (rows : List (Path × Node)) (d : Path) (i : ℕ) (row : Path × Node) (m : Name) → i < length rows → row ≡ get_or rows i row → only_name (behind_of d row.0) ≡ Some m
    → (n : Name) × IsSome (lookup (path_eq (d ++ n ∷ [])) rows)
some_child rows d i row m lt at there =
    (m, seen_by (path_eq (d ++ m ∷ [])) rows i row (lookup (path_eq (d ++ m ∷ [])) rows) lt at (child_test d row.0 m ∙ ap (is_named m) there ∙ nat_list_eq_equiv.refl m) refl)

pub copied_none : {X : Type 0} (o : Option (Bor X)) → is_some o ≡ false → option_copied o ≡ None
copied_none None e = refl
copied_none (Some x) e = cc

pub copied_some : {X : Type 0} (o : Option (Bor X)) → is_some o ≡ true → (x : X) × (option_copied o ≡ Some x)
copied_some None e = cc
copied_some (Some x) e = (x.now, refl)
