-- An entry changed, path by path.
use Rattle.std.proofs.Common.{◌≡◌, ℕ, Bool, true, false, cond, List, [], ◌∷◌, ◌++◌, Option, Some, None, length, refl, sym, ap, ◌∙◌, subst, arith}
use Rattle.std.specs.Option.{option_map, option_and_then}
use Rattle.std.specs.Str.{bytes_eq}
use Rattle.eden_model.specs.Trees.{Name, Path, grafted}
use Rattle.eden_model.specs.Paths.{behind_of}
use Rattle.eden_tree.specs.Directory.{Row, Directory, child_of, with_child, change_child, change_rows}
use Rattle.eden_tree.specs.Rows.{find_row, put_row, drop_row, change_row, set_row}
use Rattle.eden_tree.specs.Paths.{row_at, edit_row, stamped_along, Standing, standing, standing_at, stamped}
use Rattle.eden_tree.specs.Laws.{PutsOne, DropsOne, ChangesOne, ReadsOn, EditsOn, EditsThere, EditsNotBeside, EditsOne, EditsNothing, EditsSame, EditsAlike, EditsTwice, PutsAt, DropsAt, StampsAlong}
use Rattle.eden_tree.specs.Laws.{HoldsWhatWasPut, PutsBackChild, StepsDown, StepsBack}
use Rattle.eden_tree.proofs.NameOrder.{same-≡, same-refl, same-both}
use Rattle.eden_tree.proofs.RowLemmas.{set_row-same, change_row-found, change_row-absent}
use Rattle.eden_tree.proofs.Lookups.{find_row-put_row, find_row-drop_row, find_row-change_row, change_row-twice}
use Rattle.eden_tree.proofs.Children.{child_of-with_child, with_child-child_of}

-- ---- one directory

-- what stands at a path below an entry that may be there
abbrev below : Path → Option Row → Option Standing
below p o = option_map standing (option_and_then (row_at p) o)

by_name : (n m : Name) (p : Path) (o was : Option Row) → below p (cond (bytes_eq m n) o was) ≡ grafted (behind_of (n ∷ []) (m ∷ p)) (λ r. below r o) (below p was)
by_name n m p o was =
    ap (λ b. below p (cond b o was)) (same-both m n)
    ∙ elim (bytes_eq n m) as (λ b. below p (cond b o was) ≡ grafted (cond b (Some p) None) (λ r. below r o) (below p was)) [ true ↦ refl | false ↦ refl ]

pub puts_one : PutsOne
puts_one d n x [] h = refl
puts_one d n x (m ∷ p) h = ap (below p) (find_row-put_row m n x d.rows h) ∙ by_name n m p (Some x) (find_row m d.rows)

pub drops_one : DropsOne
drops_one d n [] h = refl
drops_one d n (m ∷ p) h = ap (below p) (find_row-drop_row m n d.rows h) ∙ by_name n m p None (find_row m d.rows)

pub changes_one : ChangesOne
changes_one d n f x [] h = refl
changes_one d n f x (m ∷ p) h =
    ap (below p) (find_row-change_row m n f d.rows ∙ ap (λ o. cond (bytes_eq m n) (option_map f o) (find_row m d.rows)) h)
    ∙ by_name n m p (Some (f x)) (find_row m d.rows)

-- ---- one step down

abbrev inside : Name → Path → Directory → Option Row
inside n p d = option_and_then (row_at p) (find_row n d.rows)

pub holds_what_was_put : HoldsWhatWasPut
holds_what_was_put = child_of-with_child

pub puts_back_child : PutsBackChild
puts_back_child = with_child-child_of

-- the directory held after a change of it
pub child_of-change_child : (f : Directory → Directory) (x : Row) → child_of (change_child f x) ≡ option_map f (child_of x)
child_of-change_child f x = child_of-with_child (option_map f (child_of x)) x

pub steps_down : StepsDown
steps_down n p x y d h k = ap (option_and_then (inside n p)) h ∙ ap (option_and_then (row_at p)) k

-- no entry is at a path through one that isn't loaded, or a name that isn't there
pub row_at-unloaded : (n : Name) (p : Path) (x : Row) → child_of x ≡ None → row_at (n ∷ p) x ≡ None
row_at-unloaded n p x h = ap (option_and_then (inside n p)) h

pub row_at-absent : (n : Name) (p : Path) (x : Row) (d : Directory) → child_of x ≡ Some d → find_row n d.rows ≡ None → row_at (n ∷ p) x ≡ None
row_at-absent n p x d h k = ap (option_and_then (inside n p)) h ∙ ap (option_and_then (row_at p)) k

-- rows changed where a directory is held, and where none is
pub change_rows-held : (f : List (Name × Row) → List (Name × Row)) (x : Row) (d : Directory) → child_of x ≡ Some d → change_rows f x ≡ with_child (Some (record d { rows = f d.rows })) x
change_rows-held f x d h = ap (λ (o : Option Directory). with_child (option_map (λ (e : Directory). record e { rows = f e.rows }) o) x) h

pub change_rows-unloaded : (f : List (Name × Row) → List (Name × Row)) (x : Row) → child_of x ≡ None → change_rows f x ≡ x
change_rows-unloaded f x h =
    ap (λ (o : Option Directory). with_child (option_map (λ (e : Directory). record e { rows = f e.rows }) o) x) h
    ∙ ap (λ o. with_child o x) (sym h) ∙ with_child-child_of x

-- what is lent and comes back as it was
pub with_child-same : (x : Row) (d : Directory) → child_of x ≡ Some d → with_child (Some d) x ≡ x
with_child-same x d h = ap (λ o. with_child o x) (sym h) ∙ with_child-child_of x

pub steps_back : StepsBack
steps_back n p f x y d h k =
    ap (λ rows. with_child (Some (record d { rows = rows })) x) (sym (change_row-found n (edit_row p f) y d.rows k))
    ∙ sym (change_rows-held (change_row n (edit_row p f)) x d h)

pub put_back : (n : Name) (x y : Row) (d : Directory) → child_of x ≡ Some d → find_row n d.rows ≡ Some y → with_child (Some (record d { rows = set_row n y d.rows })) x ≡ x
put_back n x y d h k = ap (λ rows. with_child (Some (record d { rows = rows })) x) (set_row-same n y d.rows k) ∙ with_child-same x d h

-- ---- along a path

pub reads_on : ReadsOn
reads_on [] r x = refl
reads_on (n ∷ p) r x = elim (child_of x) as (λ o. option_and_then (inside n (p ++ r)) o ≡ option_and_then (row_at r) (option_and_then (inside n p) o)) [
  | None ↦ refl
  | Some d ↦ elim (find_row n d.rows) as (λ o. option_and_then (row_at (p ++ r)) o ≡ option_and_then (row_at r) (option_and_then (row_at p) o)) [
    | None ↦ refl
    | Some y ↦ reads_on p r y
  ]
]

-- the rows with one of two equal changes
same_change : (n : Name) (f g : Row → Row) (es : List (Name × Row)) → ((y : Row) → f y ≡ g y) → change_row n f es ≡ change_row n g es
same_change n f g [] h = refl
same_change n f g (e ∷ es) h = elim (bytes_eq n e.0) as (λ b. cond b ((e.0, f e.1) ∷ es) (e ∷ change_row n f es) ≡ cond b ((e.0, g e.1) ∷ es) (e ∷ change_row n g es)) [
  | true ↦ ap (λ y. (e.0, y) ∷ es) (h e.1)
  | false ↦ ap (λ l. e ∷ l) (same_change n f g es h)
]

same_rows : (f g : List (Name × Row) → List (Name × Row)) (x : Row) → ((es : List (Name × Row)) → f es ≡ g es) → change_rows f x ≡ change_rows g x
same_rows f g x h = elim (child_of x) as
    (λ o. with_child (option_map (λ (d : Directory). record d { rows = f d.rows }) o) x ≡ with_child (option_map (λ (d : Directory). record d { rows = g d.rows }) o) x) [
      | None ↦ refl
      | Some d ↦ ap (λ rows. with_child (Some (record d { rows = rows })) x) (h d.rows)
    ]

pub edits_on : EditsOn
edits_on [] r f x = refl
edits_on (n ∷ p) r f x = same_rows (change_row n (edit_row (p ++ r) f)) (change_row n (edit_row p (edit_row r f))) x
    (λ es. same_change n (edit_row (p ++ r) f) (edit_row p (edit_row r f)) es (edits_on p r f))

pub edits_twice : EditsTwice
edits_twice [] f g x = refl
edits_twice (n ∷ p) f g x =
    ap (λ (o : Option Directory). with_child (option_map (λ (d : Directory). record d { rows = change_row n (edit_row p f) d.rows }) o) (change_rows (change_row n (edit_row p g)) x))
    (child_of-change_child (λ d. record d { rows = change_row n (edit_row p g) d.rows }) x)
    ∙ elim (child_of x) as (λ o. with_child
    (option_map (λ (d : Directory). record d { rows = change_row n (edit_row p f) d.rows }) (option_map (λ (d : Directory). record d { rows = change_row n (edit_row p g) d.rows }) o)) x
    ≡ with_child (option_map (λ (d : Directory). record d { rows = change_row n (edit_row p (λ y. f (g y))) d.rows }) o) x) [
      | None ↦ refl
      | Some d ↦ ap (λ rows. with_child (Some (record d { rows = rows })) x)
          (change_row-twice n (edit_row p f) (edit_row p g) d.rows ∙ same_change n (λ y. edit_row p f (edit_row p g y)) (edit_row p (λ y. f (g y))) d.rows (edits_twice p f g))
    ]

pub edits_nothing : EditsNothing
edits_nothing [] f x h = absurd (cc)
edits_nothing (n ∷ p) f x h = elim (child_of x) as (λ o. child_of x ≡ o → option_and_then (inside n p) o ≡ None → change_rows (change_row n (edit_row p f)) x ≡ x) [
  | None ↦ λ e k. change_rows-unloaded (change_row n (edit_row p f)) x e
  | Some d ↦ λ e k. change_rows-held (change_row n (edit_row p f)) x d e ∙ elim (find_row n d.rows) as
      (λ o. find_row n d.rows ≡ o → option_and_then (row_at p) o ≡ None → with_child (Some (record d { rows = change_row n (edit_row p f) d.rows })) x ≡ x) [
        | None ↦ λ a l. ap (λ rows. with_child (Some (record d { rows = rows })) x) (change_row-absent n (edit_row p f) d.rows a) ∙ with_child-same x d e
        | Some y ↦ λ a l. ap (λ rows. with_child (Some (record d { rows = rows })) x)
            (change_row-found n (edit_row p f) y d.rows a ∙ ap (λ z. set_row n z d.rows) (edits_nothing p f y l)) ∙ put_back n x y d e a
      ] refl k
] refl h

pub edits_same : EditsSame
edits_same [] f x y h s = let is : x ≡ y = cc in subst (λ (z : Row). f z ≡ z) (sym is) s
edits_same (n ∷ p) f x y h s = elim (child_of x) as (λ o. child_of x ≡ o → option_and_then (inside n p) o ≡ Some y → change_rows (change_row n (edit_row p f)) x ≡ x) [
  | None ↦ λ e k. absurd (cc)
  | Some d ↦ λ e k. change_rows-held (change_row n (edit_row p f)) x d e ∙ elim (find_row n d.rows) as
      (λ o. find_row n d.rows ≡ o → option_and_then (row_at p) o ≡ Some y → with_child (Some (record d { rows = change_row n (edit_row p f) d.rows })) x ≡ x) [
        | None ↦ λ a l. absurd (cc)
        | Some z ↦ λ a l. ap (λ rows. with_child (Some (record d { rows = rows })) x)
            (change_row-found n (edit_row p f) z d.rows a ∙ ap (λ w. set_row n w d.rows) (edits_same p f z y l s)) ∙ put_back n x z d e a
      ] refl k
] refl h

pub edits_alike : EditsAlike
edits_alike [] f g x y h s = let is : x ≡ y = cc in subst (λ (z : Row). f z ≡ g z) (sym is) s
edits_alike (n ∷ p) f g x y h s = elim (child_of x) as (λ o. child_of x ≡ o → option_and_then (inside n p) o ≡ Some y → edit_row (n ∷ p) f x ≡ edit_row (n ∷ p) g x) [
  | None ↦ λ e k. absurd (cc)
  | Some d ↦ λ e k. elim (find_row n d.rows) as (λ o. find_row n d.rows ≡ o → option_and_then (row_at p) o ≡ Some y → edit_row (n ∷ p) f x ≡ edit_row (n ∷ p) g x) [
    | None ↦ λ a l. absurd (cc)
    | Some z ↦ λ a l. sym (steps_back n p f x z d e a)
        ∙ ap (λ w. with_child (Some (record d { rows = set_row n w d.rows })) x) (edits_alike p f g z y l s)
        ∙ steps_back n p g x z d e a
  ] refl k
] refl h

-- the entry at a path through the rows that a directory has once one of them is changed
changed_at : (m n : Name) (q : Path) (f : Row → Row) (g : Directory → Directory) (x : Row) → ((d : Directory) → (g d).rows ≡ change_row n f d.rows)
    → row_at (m ∷ q) (change_child g x) ≡ option_and_then (λ d. option_and_then (row_at q) (cond (bytes_eq m n) (option_map f (find_row n d.rows)) (find_row m d.rows))) (child_of x)
changed_at m n q f g x is =
    ap (option_and_then (inside m q)) (child_of-change_child g x)
    ∙ elim (child_of x) as (λ o. option_and_then (inside m q) (option_map g o) ≡ option_and_then
    (λ d. option_and_then (row_at q) (cond (bytes_eq m n) (option_map f (find_row n d.rows)) (find_row m d.rows))) o) [
      | None ↦ refl
      | Some d ↦ ap (λ rows. option_and_then (row_at q) (find_row m rows)) (is d) ∙ ap (option_and_then (row_at q)) (find_row-change_row m n f d.rows)
    ]

edited_at : (m n : Name) (p q : Path) (f : Row → Row) (x : Row)
    → row_at (m ∷ q) (edit_row (n ∷ p) f x) ≡ option_and_then (λ d. option_and_then (row_at q) (cond (bytes_eq m n) (option_map (edit_row p f) (find_row n d.rows)) (find_row m d.rows))) (child_of x)
edited_at m n p q f x = changed_at m n q (edit_row p f) (λ d. record d { rows = change_row n (edit_row p f) d.rows }) x (λ d. refl)

pub edits_there : EditsThere
edits_there [] f x = refl
edits_there (n ∷ p) f x =
    edited_at n n p p f x
    ∙ elim (child_of x) as (λ o. option_and_then (λ d. option_and_then (row_at p) (cond (bytes_eq n n) (option_map (edit_row p f) (find_row n d.rows)) (find_row n d.rows))) o ≡ option_map f
    (option_and_then (inside n p) o)) [
      | None ↦ refl
      | Some d ↦ ap (λ b. option_and_then (row_at p) (cond b (option_map (edit_row p f) (find_row n d.rows)) (find_row n d.rows))) (same-refl n)
          ∙ elim (find_row n d.rows) as (λ o. option_and_then (row_at p) (option_map (edit_row p f) o) ≡ option_map f (option_and_then (row_at p) o)) [ None ↦ refl | Some y ↦ edits_there p f y ]
    ]

pub edits_not_beside : EditsNotBeside
edits_not_beside [] q f x h k = absurd (cc)
edits_not_beside (n ∷ p) [] f x h k = absurd (cc)
edits_not_beside (n ∷ p) (m ∷ q) f x h k =
    edited_at m n p q f x
    ∙ elim (child_of x) as (λ o. option_and_then (λ d. option_and_then (row_at q) (cond (bytes_eq m n) (option_map (edit_row p f) (find_row n d.rows)) (find_row m d.rows))) o ≡ option_and_then
    (inside m q) o) [
      | None ↦ refl
      | Some d ↦ elim (bytes_eq m n) as
          (λ b. bytes_eq m n ≡ b → option_and_then (row_at q) (cond b (option_map (edit_row p f) (find_row n d.rows)) (find_row m d.rows)) ≡ option_and_then (row_at q) (find_row m d.rows)) [
            | true ↦ λ s.
                let front : behind_of p q ≡ None = ap (λ b. cond b (behind_of p q) None) (sym (sym (same-both m n) ∙ s)) ∙ h in
                let back : behind_of q p ≡ None = ap (λ b. cond b (behind_of q p) None) (sym s) ∙ k in
                ap (λ (i : Name). option_and_then (row_at q) (option_map (edit_row p f) (find_row i d.rows))) (sym (same-≡ m n s))
                ∙ elim (find_row m d.rows) as (λ o. option_and_then (row_at q) (option_map (edit_row p f) o) ≡ option_and_then (row_at q) o)
                [ None ↦ refl | Some y ↦ edits_not_beside p q f y front back ]
            | false ↦ λ s. refl
          ] refl
    ]

-- ---- what stands at each path

abbrev marks : Option Directory → Option (ℕ × Bool)
marks o = option_map (λ d. (d.stamp, d.unsaved)) o

-- a change of rows leaves the entry standing as it was
standing_kept : (f : List (Name × Row) → List (Name × Row)) (x : Row) → standing (change_rows f x) ≡ standing x
standing_kept f x =
    ap (λ l. record { number = x.number; kind = x.kind; origin = x.origin; loaded = l })
    (ap marks (child_of-change_child (λ d. record d { rows = f d.rows }) x)
    ∙ elim (child_of x) as (λ o. marks (option_map (λ (d : Directory). record d { rows = f d.rows }) o) ≡ marks o) [ None ↦ refl | Some d ↦ refl ])

pub edits_one : EditsOne
edits_one [] f x y q h = let is : x ≡ y = cc in ap (λ (z : Row). standing_at q (f z)) is
edits_one (n ∷ p) f x y [] h = ap Some (standing_kept (change_row n (edit_row p f)) x)
edits_one (n ∷ p) f x y (m ∷ q) h =
    ap (option_map standing) (edited_at m n p q f x)
    ∙ elim (child_of x) as (λ o. option_and_then (inside n p) o ≡ Some y
    → option_map standing (option_and_then (λ d. option_and_then (row_at q) (cond (bytes_eq m n) (option_map (edit_row p f) (find_row n d.rows)) (find_row m d.rows))) o)
    ≡ grafted (cond (bytes_eq n m) (behind_of p q) None) (λ r. standing_at r (f y)) (option_map standing (option_and_then (inside m q) o))) [
      | None ↦ λ k. absurd (cc)
      | Some d ↦ λ k. ap (λ b. below q (cond b (option_map (edit_row p f) (find_row n d.rows)) (find_row m d.rows))) (same-both m n)
          ∙ elim (bytes_eq n m) as (λ b. bytes_eq n m ≡ b
          → below q (cond b (option_map (edit_row p f) (find_row n d.rows)) (find_row m d.rows)) ≡ grafted (cond b (behind_of p q) None) (λ r. standing_at r (f y)) (below q (find_row m d.rows))) [
            | true ↦ λ s. elim (find_row n d.rows) as
                (λ o. option_and_then (row_at p) o ≡ Some y → below q (option_map (edit_row p f) o) ≡ grafted (behind_of p q) (λ r. standing_at r (f y)) (below q o)) [
                  | None ↦ λ l. absurd (cc)
                  | Some z ↦ λ l. edits_one p f z y q l
                ] k ∙ ap (λ (i : Name). grafted (behind_of p q) (λ r. standing_at r (f y)) (below q (find_row i d.rows))) (same-≡ n m s)
            | false ↦ λ s. refl
          ] refl
    ] h

-- ---- an entry put in or taken out at a path

behind_on : (p t q : Path) → behind_of (p ++ t) q ≡ option_and_then (behind_of t) (behind_of p q)
behind_on [] t q = refl
behind_on (n ∷ p) t [] = refl
behind_on (n ∷ p) t (m ∷ q) = elim (bytes_eq n m) as (λ b. cond b (behind_of (p ++ t) q) None ≡ option_and_then (behind_of t) (cond b (behind_of p q) None)) [ true ↦ behind_on p t q | false ↦ refl ]

behind_is : (p q r : Path) → behind_of p q ≡ Some r → q ≡ p ++ r
behind_is [] q r h = cc
behind_is (n ∷ p) [] r h = absurd (cc)
behind_is (n ∷ p) (m ∷ q) r h = elim (bytes_eq n m) as (λ b. bytes_eq n m ≡ b → cond b (behind_of p q) None ≡ Some r → m ∷ q ≡ n ∷ (p ++ r)) [
  | true ↦ λ s k. (let rest = behind_is p q r k in let same = same-≡ n m s in cc)
  | false ↦ λ s k. absurd (cc)
] refl h

-- at and below a name in the directory at a path
one_at : (p : Path) (n : Name) (f : List (Name × Row) → List (Name × Row)) (new : Path → Option Standing) (x y : Row) (q : Path) → row_at p x ≡ Some y
    → ((r : Path) → standing_at r (change_rows f y) ≡ grafted (behind_of (n ∷ []) r) new (standing_at r y))
    → standing_at q (edit_row p (change_rows f) x) ≡ grafted (behind_of (p ++ n ∷ []) q) new (standing_at q x)
one_at p n f new x y q h one =
    edits_one p (change_rows f) x y q h
    ∙ elim (behind_of p q) as (λ o. behind_of p q ≡ o → grafted o (λ r. standing_at r (change_rows f y)) (standing_at q x) ≡ grafted (option_and_then (behind_of (n ∷ [])) o) new (standing_at q x)) [
      | None ↦ λ b. refl
      | Some r ↦ λ b. one r ∙ ap (grafted (behind_of (n ∷ []) r) new)
          (sym (ap (option_map standing) (ap (λ (s : Path). row_at s x) (behind_is p q r b) ∙ reads_on p r x ∙ ap (option_and_then (row_at r)) h)))
    ] refl
    ∙ ap (λ o. grafted o new (standing_at q x)) (sym (behind_on p (n ∷ []) q))

-- in the directory of an entry
one_in : (n : Name) (f : List (Name × Row) → List (Name × Row)) (o : Option Row) (y : Row) (d : Directory) → child_of y ≡ Some d
    → ((m : Name) → find_row m (f d.rows) ≡ cond (bytes_eq m n) o (find_row m d.rows))
    → (r : Path) → standing_at r (change_rows f y) ≡ grafted (behind_of (n ∷ []) r) (λ s. below s o) (standing_at r y)
one_in n f o y d h is [] = ap Some (standing_kept f y)
one_in n f o y d h is (m ∷ r) =
    ap (λ (c : Option Directory). option_map standing (option_and_then (inside m r) c))
    (child_of-change_child (λ d. record d { rows = f d.rows }) y ∙ ap (option_map (λ (d : Directory). record d { rows = f d.rows })) h)
    ∙ ap (below r) (is m) ∙ by_name n m r o (find_row m d.rows)
    ∙ ap (λ (c : Option Directory). grafted (behind_of (n ∷ []) (m ∷ r)) (λ s. below s o) (option_map standing (option_and_then (inside m r) c))) (sym h)

pub puts_at : PutsAt
puts_at p n z x y d q h k absent = one_at p n (put_row n z) (λ r. standing_at r z) x y q h (one_in n (put_row n z) (Some z) y d k (λ m. find_row-put_row m n z d.rows absent))

pub drops_at : DropsAt
drops_at p n x y d q h k rising = one_at p n (drop_row n) (λ r. None) x y q h (one_in n (drop_row n) None y d k (λ m. find_row-drop_row m n d.rows rising))

-- ---- stamps

marks_stamped : (s : ℕ) (f : List (Name × Row) → List (Name × Row)) (x : Row) → standing (change_child (λ d. record d { stamp = s; rows = f d.rows }) x) ≡ stamped s (standing x)
marks_stamped s f x =
    ap (λ l. record { number = x.number; kind = x.kind; origin = x.origin; loaded = l })
    (ap marks (child_of-change_child (λ d. record d { stamp = s; rows = f d.rows }) x)
    ∙ elim (child_of x) as (λ o. marks (option_map (λ (d : Directory). record d { stamp = s; rows = f d.rows }) o) ≡ option_map (λ (l : ℕ × Bool). (s, l.1)) (marks o)) [ None ↦ refl | Some d ↦ refl ])

nothing_grafted : {X : Type 0} (o : Option Path) → grafted {X = Option X} o (λ r. None) None ≡ None
nothing_grafted None = refl
nothing_grafted (Some r) = refl

pub stamps_along : StampsAlong
stamps_along [] s x [] = ap Some (marks_stamped s (λ es. es) x)
stamps_along (n ∷ p) s x [] = ap Some (marks_stamped s (change_row n (stamped_along p s)) x)
stamps_along [] s x (m ∷ q) =
    ap (λ (c : Option Directory). option_map standing (option_and_then (inside m q) c)) (child_of-change_child (λ d. record d { stamp = s }) x)
    ∙ elim (child_of x) as (λ o. option_map standing (option_and_then (inside m q) (option_map (λ (d : Directory). record d { stamp = s }) o)) ≡ option_map standing (option_and_then (inside m q) o))
    [ None ↦ refl | Some d ↦ refl ]
stamps_along (n ∷ p) s x (m ∷ q) =
    ap (option_map standing) (changed_at m n q (stamped_along p s) (λ d. record d { stamp = s; rows = change_row n (stamped_along p s) d.rows }) x (λ d. refl))
    ∙ elim (child_of x) as (λ o. option_map standing
    (option_and_then (λ d. option_and_then (row_at q) (cond (bytes_eq m n) (option_map (stamped_along p s) (find_row n d.rows)) (find_row m d.rows))) o)
    ≡ grafted (cond (bytes_eq m n) (behind_of q p) None) (λ r. option_map (stamped s) (option_map standing (option_and_then (inside m q) o))) (option_map standing (option_and_then (inside m q) o))) [
      | None ↦ sym (nothing_grafted (cond (bytes_eq m n) (behind_of q p) None))
      | Some d ↦ elim (bytes_eq m n) as
          (λ b. bytes_eq m n ≡ b → below q (cond b (option_map (stamped_along p s) (find_row n d.rows)) (find_row m d.rows)) ≡ grafted (cond b (behind_of q p) None)
          (λ r. option_map (stamped s) (below q (find_row m d.rows))) (below q (find_row m d.rows))) [
            | true ↦ λ t. ap (λ (i : Name). below q (option_map (stamped_along p s) (find_row i d.rows))) (sym (same-≡ m n t))
                ∙ elim (find_row m d.rows) as (λ o. below q (option_map (stamped_along p s) o) ≡ grafted (behind_of q p) (λ r. option_map (stamped s) (below q o)) (below q o)) [
                  | None ↦ sym (nothing_grafted (behind_of q p))
                  | Some y ↦ stamps_along p s y q
                ]
            | false ↦ λ t. refl
          ] refl
    ]

-- one step of stamping a path: no directory is loaded, the path ends, its first name isn't there, or it is
module _ (s : ℕ) (x : Row) where
  pub stamped_along-unloaded : (p : Path) → child_of x ≡ None → stamped_along p s x ≡ x
  stamped_along-unloaded [] h = ap (λ (o : Option Directory). with_child (option_map (λ (d : Directory). record d { stamp = s }) o) x) h ∙ ap (λ o. with_child o x) (sym h) ∙ with_child-child_of x
  stamped_along-unloaded (n ∷ p) h =
      ap (λ (o : Option Directory). with_child (option_map (λ (d : Directory). record d { stamp = s; rows = change_row n (stamped_along p s) d.rows }) o) x) h
      ∙ ap (λ o. with_child o x) (sym h) ∙ with_child-child_of x

  pub stamped_along-end : (d : Directory) → child_of x ≡ Some d → stamped_along [] s x ≡ with_child (Some (record d { stamp = s })) x
  stamped_along-end d h = ap (λ (o : Option Directory). with_child (option_map (λ (e : Directory). record e { stamp = s }) o) x) h

  module _ (n : Name) (p : Path) (d : Directory) (h : child_of x ≡ Some d) where
    stamped_along-rows : stamped_along (n ∷ p) s x ≡ with_child (Some (record d { stamp = s; rows = change_row n (stamped_along p s) d.rows })) x
    stamped_along-rows = ap (λ (o : Option Directory). with_child (option_map (λ (e : Directory). record e { stamp = s; rows = change_row n (stamped_along p s) e.rows }) o) x) h

    pub stamped_along-absent : find_row n d.rows ≡ None → stamped_along (n ∷ p) s x ≡ with_child (Some (record d { stamp = s })) x
    stamped_along-absent k = stamped_along-rows ∙ ap (λ rows. with_child (Some (record d { stamp = s; rows = rows })) x) (change_row-absent n (stamped_along p s) d.rows k)

    pub stamped_along-found : (y : Row) → find_row n d.rows ≡ Some y → stamped_along (n ∷ p) s x ≡ with_child (Some (record d { stamp = s; rows = set_row n (stamped_along p s y) d.rows })) x
    stamped_along-found y k = stamped_along-rows ∙ ap (λ rows. with_child (Some (record d { stamp = s; rows = rows })) x) (change_row-found n (stamped_along p s) y d.rows k)

-- a path of no names
pub no_names : (p : Path) → length p ≡ 0 → p ≡ []
no_names [] h = refl
no_names (n ∷ p) h = absurd (omega arith)
