-- Which directories are unsaved once another stands at a path, or a chain became its own.
use Rattle.std.proofs.Common.{◌≡◌, ◌⊎◌, ℕ, Bool, true, false, cond, [], ◌∷◌, ◌++◌, Option, Some, None, inl, inr, refl, sym, ap, ◌∙◌}
use Rattle.std.specs.Option.{option_map, option_and_then}
use Rattle.std.specs.Str.{bytes_eq}
use Rattle.std.proofs.lemmas.List.{append-nil}
use Rattle.std.proofs.lemmas.Option.{same_Some, none-some}
use Rattle.eden_model.specs.Paths.{behind_of}
use Rattle.eden_model.specs.Trees.{Name, Path, grafted}
use Rattle.eden_model.proofs.CallerLemmas.{behind_sound}
use Rattle.eden_overlay_format.specs.Directory.{is_own}
use Rattle.eden_tree.specs.Directory.{Row, Directory, child_of, with_child}
use Rattle.eden_tree.specs.Rows.{find_row, change_row}
use Rattle.eden_tree.specs.Paths.{row_at, Standing, standing, standing_at}
use Rattle.eden_tree.proofs.CallerLemmas.{same-≡, reads_on, edits_one, row_at-unloaded, child_of-with_child, child_of-change_child, find_row-change_row}
use Rattle.eden_coupling.specs.Changing.{with_listing}
use Rattle.eden_coupling.specs.Chains.{IsUnsavedAt, NoneMarked}
use Rattle.eden_coupling.specs.Laws.{owned}
use Rattle.eden_coupling.specs.Materialising.{kept_mark, owned_along}

-- the mark of the loaded directory that an entry holds, if any
abbrev mark : Option Row → Option Bool
mark o = option_map (λ (d : Directory). d.unsaved) (option_and_then child_of o)

-- .. of what stands at a path
abbrev pub mark_of : Option Standing → Option Bool
mark_of o = option_and_then (λ (v : Standing). option_map (λ (l : ℕ × Bool). l.1) v.loaded) o

mark_standing : (o : Option Row) → mark_of (option_map standing o) ≡ mark o
mark_standing None = refl
mark_standing (Some y) =
    elim (child_of y) as (λ c. option_map (λ (l : ℕ × Bool). l.1) (option_map (λ (d : Directory). (d.stamp, d.unsaved)) c) ≡ option_map (λ (d : Directory). d.unsaved) c) [
      | None ↦ refl
      | Some d ↦ refl
    ]

-- told by what stands at the path
pub unsaved_standing : (q : Path) (x : Row) → IsUnsavedAt q x → mark_of (standing_at q x) ≡ Some true
unsaved_standing q x unsaved = mark_standing (row_at q x) ∙ unsaved

pub standing_unsaved : (q : Path) (x : Row) → mark_of (standing_at q x) ≡ Some true → IsUnsavedAt q x
standing_unsaved q x is = sym (mark_standing (row_at q x)) ∙ is

-- nothing is at or below an entry that isn't loaded
not_unsaved : (r : Path) (v : Row) → child_of v ≡ None → mark (row_at r v) ≡ Some true → ⊥
not_unsaved [] v none is = none-some true (sym (ap (option_map (λ (d : Directory). d.unsaved)) none) ∙ is)
not_unsaved (k ∷ r) v none is = none-some true (sym (ap mark (row_at-unloaded k r v none)) ∙ is)

-- ---- another directory at a path: what is in it was there, or isn't loaded

module _ (p : Path) (x y : Row) (e : Directory) (at : row_at p x ≡ Some y)
    (each : (m : Name) (v : Row) → find_row m e.rows ≡ Some v → (row_at (m ∷ []) y ≡ Some v) ⊎ (child_of v ≡ None)) where
  abbrev now : Row
  now = with_child (Some e) y

  below_by : (m : Name) (r : Path) (o : Option Row) → ((v : Row) → o ≡ Some v → (row_at (m ∷ []) y ≡ Some v) ⊎ (child_of v ≡ None))
      → mark (option_and_then (row_at r) o) ≡ Some true → IsUnsavedAt (m ∷ r) y
  below_by m r None was is = absurd (none-some true is)
  below_by m r (Some v) was is = elim (was v refl) [
    | inl there ↦ ap mark (reads_on (m ∷ []) r y ∙ ap (option_and_then (row_at r)) there) ∙ is
    | inr none ↦ absurd (not_unsaved r v none is)
  ]

  here_by : (r : Path) → IsUnsavedAt r now → ((r ≡ []) × (e.unsaved ≡ true)) ⊎ IsUnsavedAt r y
  here_by [] is = inl (refl, same_Some e.unsaved true (sym (ap (option_map (λ (d : Directory). d.unsaved)) (child_of-with_child (Some e) y)) ∙ is))
  here_by (m ∷ r) is =
      inr (below_by m r (find_row m e.rows) (each m)
      (sym (ap (λ (c : Option Directory). mark (option_and_then (λ (d : Directory). option_and_then (row_at r) (find_row m d.rows)) c)) (child_of-with_child (Some e) y)) ∙ is))

  by_front : (q : Path) (o : Option Path) → behind_of p q ≡ o → mark_of (grafted o (λ r. standing_at r now) (standing_at q x)) ≡ Some true → ((q ≡ p) × (e.unsaved ≡ true)) ⊎ IsUnsavedAt q x
  by_front q None front is = inr (standing_unsaved q x is)
  by_front q (Some r) front is =
      let split : q ≡ p ++ r = behind_sound p q r front in
      elim (here_by r (standing_unsaved r now is)) [
        | inl top ↦ inl (split ∙ ap (λ (s : Path). p ++ s) top.0 ∙ append-nil p, top.1)
        | inr was ↦ inr (ap mark (ap (λ (s : Path). row_at s x) split ∙ reads_on p r x ∙ ap (option_and_then (row_at r)) at) ∙ was)
      ]

  pub unsaved_with : (q : Path) → IsUnsavedAt q (with_listing p e x) → ((q ≡ p) × (e.unsaved ≡ true)) ⊎ IsUnsavedAt q x
  unsaved_with q unsaved =
      by_front q (behind_of p q) refl (sym (ap mark_of (edits_one p (with_child (Some e)) x y q at)) ∙ unsaved_standing q (with_listing p e x) unsaved)

  pub none_marked_with : e.unsaved ≡ false → NoneMarked x (with_listing p e x)
  none_marked_with saved q unsaved = elim (unsaved_with q unsaved) [ inl here ↦ (let no : false ≡ true = sym saved ∙ here.1 in absurd (cc)) | inr was ↦ was ]

-- ---- a chain that becomes its own

abbrev step : Name → Path → Directory → Directory
step n p d = record d { rows = change_row n (λ z. owned (owned_along p z)) d.rows; unsaved = kept_mark (find_row n d.rows) d.unsaved }

kept_was : (o : Option Row) (b : Bool) → kept_mark o b ≡ true → b ≡ true
kept_was None b is = is
kept_was (Some z) b is = elim (is_own z.origin) as (λ t. cond t b false ≡ true → b ≡ true) [ true ↦ λ same. same | false ↦ λ no. absurd (cc) ] is

-- below one step
module _ (n m : Name) (p q : Path) (deeper : (z : Row) → IsUnsavedAt q (owned (owned_along p z)) → IsUnsavedAt q z) where
  abbrev below_as : Option Row → Type 0
  below_as o = mark (option_and_then (row_at q) o) ≡ Some true

  on_it : (o : Option Row) → below_as (option_map (λ z. owned (owned_along p z)) o) → below_as o
  on_it None now = now
  on_it (Some z) now = deeper z now

  one_step : (d : Directory) → below_as (cond (bytes_eq m n) (option_map (λ z. owned (owned_along p z)) (find_row n d.rows)) (find_row m d.rows)) → below_as (find_row m d.rows)
  one_step d =
      elim (bytes_eq m n) as (λ b. bytes_eq m n ≡ b → below_as (cond b (option_map (λ z. owned (owned_along p z)) (find_row n d.rows)) (find_row m d.rows)) → below_as (find_row m d.rows)) [
        | true ↦ λ t now. on_it (find_row m d.rows)
            (ap (λ (i : Name). mark (option_and_then (row_at q) (option_map (λ z. owned (owned_along p z)) (find_row i d.rows)))) (same-≡ m n t) ∙ now)
        | false ↦ λ t now. now
      ] refl

pub owned_marks : (p q : Path) (x : Row) → IsUnsavedAt q (owned (owned_along p x)) → IsUnsavedAt q x
owned_marks [] [] x is = is
owned_marks [] (m ∷ q) x is = is
owned_marks (n ∷ p) [] x is =
    elim (child_of x) as (λ c. option_map (λ (d : Directory). d.unsaved) (option_map (step n p) c) ≡ Some true → option_map (λ (d : Directory). d.unsaved) c ≡ Some true) [
      | None ↦ λ no. no
      | Some d ↦ λ now. ap Some (kept_was (find_row n d.rows) d.unsaved (same_Some (kept_mark (find_row n d.rows) d.unsaved) true now))
    ] (sym (ap (option_map (λ (d : Directory). d.unsaved)) (child_of-change_child (step n p) x)) ∙ is)
owned_marks (n ∷ p) (m ∷ q) x is =
    elim (child_of x) as (λ c. mark (option_and_then (λ (d : Directory). option_and_then (row_at q) (find_row m d.rows)) (option_map (step n p) c)) ≡ Some true
    → mark (option_and_then (λ (d : Directory). option_and_then (row_at q) (find_row m d.rows)) c) ≡ Some true) [
      | None ↦ λ no. no
      | Some d ↦ λ now. one_step n m p q (λ z h. owned_marks p q z h) d
          (sym (ap (λ (o : Option Row). mark (option_and_then (row_at q) o)) (find_row-change_row m n (λ z. owned (owned_along p z)) d.rows)) ∙ now)
    ] (sym (ap (λ (c : Option Directory). mark (option_and_then (λ (d : Directory). option_and_then (row_at q) (find_row m d.rows)) c)) (child_of-change_child (step n p) x)) ∙ is)

-- .. once one directory of it changed
pub chained_marks : (p : Path) (e : Directory) (x : Row) → NoneMarked x (with_listing p e x) → NoneMarked x (owned (owned_along p (with_listing p e x)))
chained_marks p e x none q unsaved = none q (owned_marks p q (with_listing p e x) unsaved)
