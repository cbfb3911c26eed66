-- Names of loaded directories at their positions, and what keeps them there.
use Rattle.std.proofs.Common.{◌≡◌, ℕ, zero, suc, true, false, cond, List, [], ◌∷◌, Option, Some, None, refl, sym, ap, ◌∙◌}
use Rattle.std.specs.List.{slice_get}
use Rattle.std.specs.Map.{keys_of}
use Rattle.std.specs.Option.{option_map, option_and_then}
use Rattle.std.specs.Str.{bytes_eq}
use Rattle.eden_model.specs.declared.kind.Origin.{Origin}
use Rattle.eden_model.specs.Named.{AreRising}
use Rattle.eden_model.specs.Trees.{Name, Path}
use Rattle.eden_tree.specs.Directory.{Row, Directory, child_of, with_child, change_child}
use Rattle.eden_tree.specs.Rows.{find_row, change_row}
use Rattle.eden_tree.specs.Paths.{row_at, edit_row, stamped_along}
use Rattle.eden_tree.proofs.CallerLemmas.{same-≡, same-refl, child_of-change_child, keys_of-change_row, find_row-change_row}
use Rattle.eden_tree.proofs.CallerLemmas.{find_row-slice_get, set_at-set_row, steps_down, row_at-unloaded, row_at-absent}
use Rattle.eden_coupling.specs.Loading.{IsAt, with_loaded}
use Rattle.eden_inode.specs.Trails.{Leads, names_at, KeepsNames, Pins}
use Rattle.eden_inode.proofs.Rows.{same_some, none_some}

-- ---- one position

row_there : (rows : List (Name × Row)) (n : Name) (i : ℕ) → slice_get (keys_of rows) i ≡ Some n → (y : Row) × (slice_get rows i ≡ Some (n, y))
row_there [] n i h = absurd (cc)
row_there (e ∷ es) n zero h = (e.1, ap (λ (m : Name). Some (m, e.1)) (same_some e.0 n h))
row_there (e ∷ es) n (suc i) h = row_there es n i h

pub pinned : (n : Name) (i : ℕ) (rows : List (Name × Row)) → AreRising (λ r. r.0) rows → slice_get (keys_of rows) i ≡ Some n → Pins n i rows
pinned n i rows rising h =
    let there = row_there rows n i h in
    record {
      row = there.0;
      place = h;
      at = there.1;
      there = find_row-slice_get rows i (n, there.0) rising there.1;
      sets = λ w. set_at-set_row rows i (n, there.0) w rising there.1;
    }

-- a name that has a position is found
found_by : (rows : List (Name × Row)) (n : Name) (i : ℕ) → slice_get (keys_of rows) i ≡ Some n → (y : Row) × (find_row n rows ≡ Some y)
found_by [] n i h = absurd (cc)
found_by (e ∷ es) n zero h =
    let name = same_some e.0 n h in
    (e.1, ap (λ (m : Name). cond (bytes_eq n m) (Some e.1) (find_row n es)) name ∙ ap (λ b. cond b (Some e.1) (find_row n es)) (same-refl n))
found_by (e ∷ es) n (suc i) h =
    elim (bytes_eq n e.0) as (λ b. (y : Row) × (cond b (Some e.1) (find_row n es) ≡ Some y)) [ true ↦ (e.1, refl) | false ↦ found_by es n i h ]

-- ---- what is loaded keeps its names

pub keeps_same : (x : Row) → KeepsNames x x
keeps_same x p names h = h

pub keeps_then : (x y z : Row) → KeepsNames x y → KeepsNames y z → KeepsNames x z
keeps_then x y z k l p names h = l p names (k p names h)

names_here : (x : Row) (d : Directory) → child_of x ≡ Some d → names_at [] x ≡ Some (keys_of d.rows)
names_here x d holds = ap (option_map (λ (e : Directory). keys_of e.rows)) holds

names_below : (n : Name) (q : Path) (x y : Row) (d : Directory) → child_of x ≡ Some d → find_row n d.rows ≡ Some y → names_at (n ∷ q) x ≡ names_at q y
names_below n q x y d holds there = ap (λ (o : Option Row). option_map (λ (e : Directory). keys_of e.rows) (option_and_then child_of o)) (steps_down n q x y d holds there)

names_absent : (n : Name) (q : Path) (x : Row) → row_at (n ∷ q) x ≡ None → names_at (n ∷ q) x ≡ None
names_absent n q x none = ap (λ (o : Option Row). option_map (λ (e : Directory). keys_of e.rows) (option_and_then child_of o)) none

none_names : (x : Row) → child_of x ≡ None → (p : Path) → names_at p x ≡ None
none_names x none [] = ap (option_map (λ (e : Directory). keys_of e.rows)) none
none_names x none (n ∷ q) = names_absent n q x (row_at-unloaded n q x none)

-- what isn't loaded has none to keep
pub keeps_unloaded : (x z : Row) → child_of x ≡ None → KeepsNames x z
keeps_unloaded x z none p names h = none_some names (names_at p z ≡ Some names) (sym (none_names x none p) ∙ h)

pub keeps_below : (n : Name) (x z y w : Row) (d e : Directory) → child_of x ≡ Some d → find_row n d.rows ≡ Some y → child_of z ≡ Some e → find_row n e.rows ≡ Some w
    → KeepsNames x z → KeepsNames y w
keeps_below n x z y w d e holds there held found k q names h =
    sym (names_below n q z w e held found) ∙ k (n ∷ q) names (names_below n q x y d holds there ∙ h)

-- a directory that has the same names, and of each entry one that keeps its own
pub keeps_step : (x z : Row) (d e : Directory) → child_of x ≡ Some d → child_of z ≡ Some e → keys_of e.rows ≡ keys_of d.rows
    → ((n : Name) (y : Row) → find_row n d.rows ≡ Some y → (w : Row) × ((find_row n e.rows ≡ Some w) × KeepsNames y w)) → KeepsNames x z
keeps_step x z d e holds held keys each [] names h =
    names_here z e held ∙ ap (λ (ks : List Name). Some ks) keys ∙ sym (names_here x d holds) ∙ h
keeps_step x z d e holds held keys each (n ∷ q) names h =
    elim (find_row n d.rows) as (λ o. find_row n d.rows ≡ o → names_at (n ∷ q) z ≡ Some names) [
      | None ↦ λ none. none_some names (names_at (n ∷ q) z ≡ Some names) (sym (names_absent n q x (row_at-absent n q x d holds none)) ∙ h)
      | Some y ↦ λ there. (let w = each n y there in names_below n q z w.0 e held w.1.0 ∙ w.1.1 q names (sym (names_below n q x y d holds there) ∙ h))
    ] refl

pub keeps_changed : (n : Name) (g : Row → Row) (f : Directory → Directory) (x : Row) → ((d : Directory) → (f d).rows ≡ change_row n g d.rows)
    → ((d : Directory) (y : Row) → child_of x ≡ Some d → find_row n d.rows ≡ Some y → KeepsNames y (g y)) → KeepsNames x (change_child f x)
keeps_changed n g f x rows keeps =
    elim (child_of x) as (λ o. child_of x ≡ o → KeepsNames x (change_child f x)) [
      | None ↦ λ none. keeps_unloaded x (change_child f x) none
      | Some d ↦ λ holds. keeps_step x (change_child f x) d (f d) holds (child_of-change_child f x ∙ ap (option_map f) holds)
          (ap keys_of (rows d) ∙ keys_of-change_row n g d.rows)
          (λ m y there.
          (let found : find_row m (f d).rows ≡ cond (bytes_eq m n) (option_map g (find_row n d.rows)) (find_row m d.rows) = ap (find_row m) (rows d) ∙ find_row-change_row m n g d.rows in
          elim (bytes_eq m n) as (λ b. bytes_eq m n ≡ b → find_row m (f d).rows ≡ cond b (option_map g (find_row n d.rows)) (find_row m d.rows)
          → (w : Row) × ((find_row m (f d).rows ≡ Some w) × KeepsNames y w)) [
            | true ↦ λ same is. (let at : find_row n d.rows ≡ Some y = ap (λ (k : Name). find_row k d.rows) (sym (same-≡ m n same)) ∙ there in
                (g y, (is ∙ ap (option_map g) at, keeps d y holds at)))
            | false ↦ λ other is. (y, (is ∙ there, keeps_same y))
          ] refl found))
    ] refl

-- an edit of an entry that keeps what is loaded in it
pub keeps_edit : (p : Path) (f : Row → Row) (x : Row) → ((y : Row) → row_at p x ≡ Some y → KeepsNames y (f y)) → KeepsNames x (edit_row p f x)
keeps_edit [] f x keeps = keeps x refl
keeps_edit (n ∷ p) f x keeps =
    keeps_changed n (edit_row p f) (λ d. record d { rows = change_row n (edit_row p f) d.rows }) x (λ d. refl)
    (λ d y holds there. keeps_edit p f y (λ v at. keeps v (steps_down n p x y d holds there ∙ at)))

-- stamps, and a directory that is loaded
none_changed : (es : List (Name × Row)) (n : Name) → change_row n (λ y. y) es ≡ es
none_changed [] n = refl
none_changed (e ∷ es) n = elim (bytes_eq n e.0) as (λ b. cond b (e ∷ es) (e ∷ change_row n (λ y. y) es) ≡ e ∷ es) [ true ↦ refl | false ↦ ap (λ (fs : List (Name × Row)). e ∷ fs) (none_changed es n) ]

pub keeps_stamps : (p : Path) (s : ℕ) (x : Row) → KeepsNames x (stamped_along p s x)
keeps_stamps [] s x = keeps_changed [] (λ y. y) (λ d. record d { stamp = s }) x (λ d. sym (none_changed d.rows [])) (λ d y holds there. keeps_same y)
keeps_stamps (n ∷ p) s x =
    keeps_changed n (stamped_along p s) (λ d. record d { stamp = s; rows = change_row n (stamped_along p s) d.rows }) x (λ d. refl)
    (λ d y holds there. keeps_stamps p s y)

pub keeps_loaded : (p : Path) (clock : ℕ) (d : Directory) (x : Row) (o : Origin) → IsAt p x o → KeepsNames x (with_loaded p clock d x)
keeps_loaded p clock d x o at =
    let put = edit_row p (with_child (Some d)) x in
    keeps_then x put (with_loaded p clock d x)
    (keeps_edit p (with_child (Some d)) x
    (λ y there. keeps_unloaded y (with_child (Some d) y) (ap child_of (same_some y at.row (sym there ∙ at.there)) ∙ at.unloaded)))
    (keeps_stamps p clock put)

-- ---- positions that lead along a path go on to do so

directory_in_it : (z : Row) (names : List Name) → names_at [] z ≡ Some names → (e : Directory) × ((child_of z ≡ Some e) × (keys_of e.rows ≡ names))
directory_in_it z names h =
    elim (child_of z) as (λ o. child_of z ≡ o → (e : Directory) × ((child_of z ≡ Some e) × (keys_of e.rows ≡ names))) [
      | None ↦ λ none. none_some names ((e : Directory) × ((child_of z ≡ Some e) × (keys_of e.rows ≡ names))) (sym (none_names z none []) ∙ h)
      | Some e ↦ λ held. (e, (held, same_some (keys_of e.rows) names (sym (names_here z e held) ∙ h)))
    ] refl

pub leads_kept : (p : Path) (is : List ℕ) (x z : Row) → KeepsNames x z → Leads p is x → Leads p is z
leads_kept p [] x z k h = tt
leads_kept [] (i ∷ is) x z k h = h
leads_kept (n ∷ p) (i ∷ is) x z k h =
    let s = h.1.0 in
    let e = directory_in_it z (keys_of s.directory.rows) (k [] (keys_of s.directory.rows) (names_here x s.directory s.holds)) in
    let place : slice_get (keys_of e.0.rows) i ≡ Some n = ap (λ (ks : List Name). slice_get ks i) e.1.1 ∙ s.place in
    let there = found_by e.0.rows n i place in (
      there.0,
      (
        record { directory = e.0; holds = e.1.0; place = place; there = there.1 },
        leads_kept p is h.0 there.0 (keeps_below n x z h.0 there.0 s.directory e.0 s.holds s.there e.1.0 there.1 k) h.1.1,
      ),
    )
