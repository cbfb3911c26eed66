-- Changes that move no name: each loaded directory keeps its names at their positions.
use Rattle.std.proofs.Common.{◌≡◌, ℕ, false, [], ◌∷◌, Option, Some, None, Result, Ok, Err, inl, inr, refl, sym, ap, ◌∙◌, subst}
use Rattle.std.specs.Option.{option_map}
use Rattle.eden_model.specs.declared.fault.Fault.{Fault}
use Rattle.eden_model.specs.Trees.{Name, Path}
use Rattle.eden_overlay.specs.Files.{Stored}
use Rattle.eden_tree.specs.Directory.{Row, Directory, child_of, with_child, change_child}
use Rattle.eden_tree.specs.Paths.{row_at}
use Rattle.eden_tree.specs.Rows.{find_row, change_row, set_row}
use Rattle.eden_tree.proofs.CallerLemmas.{child_of-with_child}
use Rattle.eden_coupling.specs.Chains.{chained}
use Rattle.eden_coupling.specs.Changing.{changed, placed, with_listing}
use Rattle.eden_coupling.specs.Filing.{HasFile}
use Rattle.eden_coupling.specs.Laws.{owned}
use Rattle.eden_coupling.specs.Materialising.{kept_mark, owned_along}
use Rattle.eden_coupling.specs.Saving.{saved}
use Rattle.eden_inode.specs.Trails.{KeepsNames}
use Rattle.eden_inode.proofs.CallerLemmas.{keeps_same, keeps_then, keeps_unloaded, keeps_step, keeps_changed, keeps_edit, same_some}
use Rattle.eden_materialise.specs.Chains.{Owns}
use Rattle.eden_materialise.specs.Filing.{FilesEntry, not_filed, filed}
use Rattle.eden_materialise.specs.Fills.{FillsFile}
use Rattle.eden_materialise.specs.Listings.{ChangesEntry}
use Rattle.eden_materialise.specs.Saving.{SavesAt}

keeps_is : (x z : Row) → z ≡ x → KeepsNames x z
keeps_is x z is = subst (KeepsNames x) (sym is) (keeps_same x)

-- ---- a chain of directories

-- an entry of another origin holds what it held
keeps_owned : (x : Row) → KeepsNames x (owned x)
keeps_owned x [] names h = h
keeps_owned x (n ∷ p) names h = h

keeps_along : (p : Path) (x : Row) → KeepsNames x (owned_along p x)
keeps_along [] x = keeps_same x
keeps_along (n ∷ p) x =
    let g : Row → Row = λ z. owned (owned_along p z) in
    keeps_changed n g (λ d. record d { rows = change_row n g d.rows; unsaved = kept_mark (find_row n d.rows) d.unsaved }) x (λ d. refl)
    (λ d y holds there. keeps_then y (owned_along p y) (g y) (keeps_along p y) (keeps_owned (owned_along p y)))

keeps_chain : (p : Path) (x : Row) → KeepsNames x (owned (owned_along p x))
keeps_chain p x = keeps_then x (owned_along p x) (owned (owned_along p x)) (keeps_along p x) (keeps_owned (owned_along p x))

-- ---- the directory at a path

keeps_listing : (p : Path) (e : Directory) (x y : Row) → row_at p x ≡ Some y → KeepsNames y (with_child (Some e) y) → KeepsNames x (with_listing p e x)
keeps_listing p e x y at keeps =
    keeps_edit p (with_child (Some e)) x (λ v there. subst (λ (r : Row). KeepsNames r (with_child (Some e) r)) (same_some y v (sym at ∙ there)) keeps)

-- .. saved
keeps_saved : (y : Row) (d : Directory) → child_of y ≡ Some d → KeepsNames y (with_child (Some (saved d)) y)
keeps_saved y d holds = keeps_step y (with_child (Some (saved d)) y) d (saved d) holds (child_of-with_child (Some (saved d)) y) refl (λ n w there. (w, (there, keeps_same w)))

-- .. with another entry in the place of one that isn't loaded
keeps_set : (n : Name) (u w y : Row) (d : Directory) → child_of y ≡ Some d → find_row n d.rows ≡ Some u → child_of u ≡ None → KeepsNames y (with_child (Some (changed d n (Some w))) y)
keeps_set n u w y d holds there unloaded =
    let f : Directory → Directory = λ e. record e { rows = set_row n w e.rows; unsaved = false } in
    let is : change_child f y ≡ with_child (Some (changed d n (Some w))) y
    = ap (λ (o : Option Directory). with_child (option_map f o) y) holds
    ∙ ap (λ (o : Option Row). with_child (Some (record d { rows = placed o n w d.rows; unsaved = false })) y) (sym there) in
    subst (KeepsNames y) is
    (keeps_changed n (λ r. w) f y (λ e. refl)
    (λ e v held found.
    (let same : d ≡ e = same_some d e (sym holds ∙ held) in
    let old : u ≡ v = same_some u v (sym there ∙ ap (λ (c : Directory). find_row n c.rows) same ∙ found) in
    keeps_unloaded v w (subst (λ (r : Row). child_of r ≡ None) old unloaded))))

-- ---- what the changes do

module _ (honest : Type 0) (p : Path) (F : Stored) (x : Row) (old : ℕ) (G : Stored) (z : Row) (new : ℕ) where
  pub owns_names : (answer : Result (Unit {0}) Fault) → Owns honest p F x old G z new answer → KeepsNames x z
  owns_names (Ok u) o = subst (KeepsNames x) (sym o.ok) (keeps_chain p x)
  owns_names (Err e) o = keeps_is x z o.err

  pub saves_names : (answer : Result (Unit {0}) Fault) → SavesAt honest p F x old G z new answer → KeepsNames x z
  saves_names (Err e) s = keeps_is x z s.err
  saves_names (Ok u) s = elim s.ok as (λ c. KeepsNames x z) [
    | inl idle ↦ keeps_is x z idle.root
    | inr done ↦ subst (KeepsNames x) (sym done.then) (keeps_listing p (saved done.directory) x done.row done.at (keeps_saved done.row done.directory done.holds))
  ]

  -- an entry in the place of a file that is there
  pub places_names : (n : Name) (u w : Row) → HasFile x p n u → (answer : Result (Unit {0}) Fault) → ChangesEntry honest p n (Some w) F x old G z new answer → KeepsNames x z
  places_names n u w a (Err e) c = keeps_is x z c.err
  places_names n u w a (Ok v) c =
      let e = changed a.directory n (Some w) in
      let put = with_listing p e x in
      subst (KeepsNames x) (sym (c.ok a.row a.directory a.at a.holds))
      (keeps_then x put (chained p e x)
      (keeps_listing p e x a.row a.at (keeps_set n u w a.row a.directory a.holds a.there a.unloaded))
      (keeps_chain p put))

pub files_names : (honest : Type 0) (p : Path) (n : Name) (u w : Row) (F M : Stored) (x : Row) (old : ℕ) (G : Stored) (z : Row) (new : ℕ) (answer : Result (Unit {0}) Fault)
    → HasFile x p n u → FilesEntry honest p n w F M x old G z new answer → KeepsNames x z
files_names honest p n u w F M x old G z new _ a (not_filed e root files why) = keeps_is x z root
files_names honest p n u w F M x old G z new _ a (filed between answer is c) = places_names honest p between x old G z new n u w a answer c

pub fills_names : (honest : Type 0) (p : Path) (n : Name) (w : Row) (F M : Stored) (x : Row) (old : ℕ) (G : Stored) (z : Row) (new : ℕ) (answer : Result (Unit {0}) Fault)
    → HasFile x p n w → FillsFile honest p n w F M x old G z new answer → KeepsNames x z
fills_names honest p n w F M x old G z new answer a (inl (own, c)) = keeps_is x z c.root
fills_names honest p n w F M x old G z new answer a (inr (other, c)) = files_names honest p n w (owned w) F M x old G z new answer a c
