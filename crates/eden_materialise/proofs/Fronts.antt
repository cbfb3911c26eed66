-- Directories that are stored again, one after the other.
use Rattle.std.proofs.Common.{◌≡◌, ◌<◌, ◌≤◌, ◌+◌, ◌⊎◌, ℕ, zero, suc, Bool, true, false, [], ◌∷◌, ◌++◌, length, take, Option, Some, None, Result, Ok, Err, inl, inr, refl, sym, ap, ◌∙◌, subst, arith}
use Rattle.std.proofs.Common.{length-append}
use Rattle.std.proofs.lemmas.Bool.{cases_lt}
use Rattle.std.proofs.lemmas.Option.{same_Some, none-some}
use Rattle.std.specs.Option.{option_map, option_and_then}
use Rattle.eden_model.specs.declared.fault.Fault.{Fault}
use Rattle.eden_model.specs.Repository.{Repository}
use Rattle.eden_model.specs.Trees.{Name, Path}
use Rattle.eden_overlay.specs.Files.{Stored}
use Rattle.eden_tree.specs.Directory.{Row, Directory, child_of, with_child}
use Rattle.eden_tree.specs.Rows.{find_row}
use Rattle.eden_tree.specs.Paths.{row_at, edit_row}
use Rattle.eden_tree.proofs.CallerLemmas.{with_child-same, edits_alike, edits_same, row_at-unloaded}
use Rattle.eden_coupling.specs.Chains.{IsUnsavedAt, NoneMarked}
use Rattle.eden_coupling.specs.Kept.{IsTable, IsKept}
use Rattle.eden_coupling.specs.Saving.{saved, Saves, SavesAbove, none, one_more, same_files, IsSavedAbove}
use Rattle.eden_coupling.specs.Shown.{shown_in}
use Rattle.eden_coupling.proofs.CallerLemmas.{place_at, ties_sound, saves_table, saves_kept, saves_alike, saves_marks}
use Rattle.eden_materialise.specs.Saving.{CanSave, IsIdle, SavesAt}

-- ---- which are unsaved

mark_none : (o : Option Row) → o ≡ None → option_map (λ (d : Directory). d.unsaved) (option_and_then child_of o) ≡ None
mark_none o is = ap (λ (r : Option Row). option_map (λ (d : Directory). d.unsaved) (option_and_then child_of r)) is

not_marked : (o : Option Bool) → o ≡ None → o ≡ Some true → ⊥
not_marked o is marked = none-some true (sym is ∙ marked)

-- nothing stands above the entry itself
pub saved_end : (x : Row) → IsSavedAbove [] x
saved_end x [] n rest is unsaved = cc
saved_end x (m ∷ front) n rest is unsaved = cc

-- .. or in one that isn't loaded
pub saved_away : (p : Path) (x : Row) → child_of x ≡ None → IsSavedAbove p x
saved_away p x shut [] n rest is unsaved = not_marked _ (ap (option_map (λ (d : Directory). d.unsaved)) shut) unsaved
saved_away p x shut (m ∷ front) n rest is unsaved = not_marked _ (mark_none (row_at (m ∷ front) x) (row_at-unloaded m front x shut)) unsaved

module _ (n : Name) (p : Path) (x : Row) (d : Directory) (holds : child_of x ≡ Some d) where
  abbrev below : Path → Name → Option Row
  below front m = option_and_then (row_at front) (find_row m d.rows)

  reads : (m : Name) (front : Path) → row_at (m ∷ front) x ≡ below front m
  reads m front = ap (option_and_then (λ (e : Directory). option_and_then (row_at front) (find_row m e.rows))) holds

  abbrev mark : Option Row → Option Bool
  mark o = option_map (λ (e : Directory). e.unsaved) (option_and_then child_of o)

  -- the directory itself, and what stands above the entry below the name
  pub saved_step : d.unsaved ≡ false → ((z : Row) → find_row n d.rows ≡ Some z → IsSavedAbove p z) → IsSavedAbove (n ∷ p) x
  saved_step here rest [] k after is unsaved =
      let now : Some false ≡ Some true = ap (λ (b : Bool). Some b) (sym here) ∙ sym (ap (option_map (λ (e : Directory). e.unsaved)) holds) ∙ unsaved in
      cc
  saved_step here rest (m ∷ front) k after is unsaved =
      let one : n ≡ m = cc in
      let other : p ≡ front ++ k ∷ after = cc in
      by (find_row n d.rows) refl (ap (λ (i : Name). mark (below front i)) one ∙ sym (ap mark (reads m front)) ∙ unsaved) other
    where
      by : (o : Option Row) → find_row n d.rows ≡ o → mark (option_and_then (row_at front) o) ≡ Some true → p ≡ front ++ k ∷ after → ⊥
      by None there marked split = none-some true marked
      by (Some z) there marked split = rest z there front k after split marked

  pub unsaved_here : d.unsaved ≡ true → ¬ IsSavedAbove (n ∷ p) x
  unsaved_here here all = all [] n p refl (ap (option_map (λ (e : Directory). e.unsaved)) holds ∙ ap (λ (b : Bool). Some b) here)

  pub unsaved_below : (z : Row) → find_row n d.rows ≡ Some z → ¬ IsSavedAbove p z → ¬ IsSavedAbove (n ∷ p) x
  unsaved_below z there not all =
      not (λ front k after split marked. all (n ∷ front) k after (ap (λ (q : Path). n ∷ q) split)
      (ap mark (reads n front ∙ ap (option_and_then (row_at front)) there) ∙ marked))

-- ---- one of them

-- one that is saved is left as it is
pub idle_here : (honest : Type 0) (F : Stored) (x : Row) (d : Directory) → child_of x ≡ Some d → d.unsaved ≡ false → IsIdle honest [] F x F (with_child (Some d) x)
idle_here honest F x d holds here = record {
  was = λ unsaved.
      (let now : Some false ≡ Some true = ap (λ (b : Bool). Some b) (sym here) ∙ sym (ap (option_map (λ (e : Directory). e.unsaved)) holds) ∙ unsaved in
      cc);
  root = with_child-same x d holds;
  files = λ h. refl;
}

-- what a table allows
pub can_save : (honest : Type 0) (R : Repository) (F : Stored) (x : Row) (next : ℕ) (p : Path) → IsTable x next → (honest → IsKept R F x next) → CanSave honest p F x
can_save honest R F x next p table kept y d at holds unsaved =
    let stored = λ (h : honest). saves_kept honest R F x next p _ _ h table (kept h)
    (record { row = y; directory = d; at = at; holds = holds; unsaved = unsaved; stored = λ u. refl; then = refl }) in (
      table.listed y d (place_at p x y at) holds,
      λ h. (let k = stored h in ties_sound _ k.full _ next k.ties),
    )

pub can_here : (honest : Type 0) (p : Path) (F : Stored) (x y : Row) → row_at p x ≡ Some y → CanSave honest p F x → CanSave honest [] F y
can_here honest p F x y at can z d is holds unsaved =
    let one : y ≡ z = same_Some y z is in
    can z d (at ∙ ap (λ (r : Row). Some r) one) holds unsaved

pub saves_on : (honest : Type 0) (p : Path) (F : Stored) (x y : Row) (G : Stored) (w z : Row) → row_at p x ≡ Some y → z ≡ edit_row p (λ _. w) x → Saves honest [] F y G w → Saves honest p F x G z
saves_on honest p F x y G w z at is s =
    let one : y ≡ s.row = same_Some y s.row s.at in
    record {
      row = s.row;
      directory = s.directory;
      at = at ∙ ap (λ (r : Row). Some r) one;
      holds = s.holds;
      unsaved = s.unsaved;
      stored = s.stored;
      then = is ∙ edits_alike p (λ _. w) (with_child (Some (saved s.directory))) x y at s.then;
    }

pub idle_on : (honest : Type 0) (p : Path) (F : Stored) (x y : Row) (G : Stored) (w z : Row) → row_at p x ≡ Some y → z ≡ edit_row p (λ _. w) x → IsIdle honest [] F y G w → IsIdle honest p F x G z
idle_on honest p F x y G w z at is i = record {
  was = λ unsaved. i.was (sym (ap (λ (o : Option Row). option_map (λ (d : Directory). d.unsaved) (option_and_then child_of o)) at) ∙ unsaved);
  root = is ∙ edits_same p (λ _. w) x y at i.root;
  files = i.files;
}

pub saves_at_on : (honest : Type 0) (p : Path) (F : Stored) (x y : Row) (old : ℕ) (G : Stored) (w z : Row) (new : ℕ) (a : Result (Unit {0}) Fault) → row_at p x ≡ Some y
    → z ≡ edit_row p (λ _. w) x → SavesAt honest [] F y old G w new a → SavesAt honest p F x old G z new a
saves_at_on honest p F x y old G w z new (Ok u) at is s = record {
  ok = elim s.ok [ inl i ↦ inl (idle_on honest p F x y G w z at is i) | inr t ↦ inr (saves_on honest p F x y G w z at is t) ];
  err = tt;
  unchanged = λ h. tt;
  fault = tt;
  counted = s.counted;
}
saves_at_on honest p F x y old G w z new (Err e) at is s = record { ok = tt; err = is ∙ edits_same p (λ _. w) x y at s.err; unchanged = s.unchanged; fault = s.fault; counted = tt }

-- what it keeps
module _ (honest : Type 0) (p : Path) (F : Stored) (x : Row) (old : ℕ) (G : Stored) (z : Row) (new : ℕ) (next : ℕ) (table : IsTable x next) where
  pub at_table : (a : Result (Unit {0}) Fault) → SavesAt honest p F x old G z new a → IsTable z next
  at_table (Ok u) s = elim s.ok [ inl i ↦ subst (λ (r : Row). IsTable r next) (sym i.root) table | inr t ↦ saves_table honest F x next p G z table t ]
  at_table (Err e) s = subst (λ (r : Row). IsTable r next) (sym s.err) table

  module _ (h : honest) (R : Repository) (k : IsKept R F x next) where
    kept_same : G ≡ F → z ≡ x → IsKept R G z next
    kept_same files root =
        let P : Stored → Type 0 = λ H. IsKept R H z next in
        let Q : Row → Type 0 = λ r. IsKept R F r next in
        subst P (sym files) (subst Q (sym root) k)

    pub at_kept : (a : Result (Unit {0}) Fault) → SavesAt honest p F x old G z new a → IsKept R G z next
    at_kept (Ok u) s = elim s.ok [ inl i ↦ kept_same (i.files h) i.root | inr t ↦ saves_kept honest R F x next p G z h table k t ]
    at_kept (Err e) s = kept_same (s.unchanged h) s.err

    shown_same : G ≡ F → z ≡ x → shown_in R G z ≡ shown_in R F x
    shown_same files root = ap (λ (H : Stored). shown_in R H z) files ∙ ap (shown_in R F) root

    pub at_shown : (a : Result (Unit {0}) Fault) → SavesAt honest p F x old G z new a → shown_in R G z ≡ shown_in R F x
    at_shown (Ok u) s = elim s.ok [ inl i ↦ shown_same (i.files h) i.root | inr t ↦ saves_alike honest R F x next p G z h table k t ]
    at_shown (Err e) s = shown_same (s.unchanged h) s.err

-- ---- one after the other, from the root down

-- no directory above the entry is unsaved that stands higher than that
abbrev pub AreSavedBelow : ℕ → Path → Row → Type 0
AreSavedBelow i p x = (front : Path) (n : Name) (rest : Path) → p ≡ front ++ n ∷ rest → length front < i → ¬ IsUnsavedAt front x

front_at : (p : Path) (i : ℕ) → i < length p → (n : Name) × ((rest : Path) × (p ≡ take i p ++ n ∷ rest))
front_at [] i within = absurd (omega (arith, within))
front_at (n ∷ p) zero within = (n, (p, refl))
front_at (n ∷ p) (suc i) within = let f = front_at p i (omega (arith, within)) in (f.0, (f.1.0, ap (λ (q : Path). n ∷ q) f.1.1))

front_is : (p front : Path) (n : Name) (rest : Path) → p ≡ front ++ n ∷ rest → front ≡ take (length front) p
front_is p [] n rest is = refl
front_is [] (m ∷ front) n rest is = cc
front_is (k ∷ p) (m ∷ front) n rest is =
    let one : m ≡ k = cc in
    let other : p ≡ front ++ n ∷ rest = cc in
    ap (λ (i : Name). i ∷ front) one ∙ ap (λ (q : Path). k ∷ q) (front_is p front n rest other)

-- the directories above the entry that stand higher than that were stored where they were unsaved
pub record SoFar (honest : Type 0) (R : Repository) (p : Path) (F : Stored) (x : Row) (old i : ℕ) (G : Stored) (z : Row) (new : ℕ) : Type 0 where
  pub above : SavesAbove honest p F x G z
  pub below : AreSavedBelow i p z
  pub counted : new ≡ old
  pub shown : honest → shown_in R G z ≡ shown_in R F x

pub none_yet : (honest : Type 0) (R : Repository) (p : Path) (F : Stored) (x : Row) (old : ℕ) → SoFar honest R p F x old 0 F x old
none_yet honest R p F x old = record { above = none; below = λ front n rest is within. absurd (omega (arith, within)); counted = refl; shown = λ h. refl }

module _ (honest : Type 0) (R : Repository) (p : Path) (F : Stored) (x : Row) (old i : ℕ) (G : Stored) (z : Row) (new : ℕ) (s : SoFar honest R p F x old i G z new)
    (within : i < length p) (H : Stored) (w : Row) (then : ℕ) where
  -- one more
  abbrev Step : Type 0
  Step = IsIdle honest (take i p) G z H w ⊎ Saves honest (take i p) G z H w

  step_above : Step → SavesAbove honest p F x H w
  step_above (inl idle) = subst (SavesAbove honest p F x H) (sym idle.root) (same_files G z H s.above idle.files)
  step_above (inr t) = let f = front_at p i within in one_more (take i p) f.0 f.1.0 G z H w f.1.1 s.above t

  step_marks : Step → NoneMarked z w
  step_marks (inl idle) = λ q unsaved. subst (IsUnsavedAt q) idle.root unsaved
  step_marks (inr t) = (saves_marks honest G z (take i p) H w t).0

  step_here : Step → ¬ IsUnsavedAt (take i p) w
  step_here (inl idle) = λ unsaved. idle.was (subst (IsUnsavedAt (take i p)) idle.root unsaved)
  step_here (inr t) = (saves_marks honest G z (take i p) H w t).1

  step_below : Step → AreSavedBelow (i + 1) p w
  step_below step front n rest is higher unsaved = by (cases_lt (length front) i) where
    by : (length front < i) ⊎ (i ≤ length front) → ⊥
    by (inl there) = s.below front n rest is there (step_marks step front unsaved)
    by (inr here) =
        let same : length front ≡ i = omega (arith, here, higher) in
        let at : front ≡ take i p = front_is p front n rest is ∙ ap (λ (k : ℕ). take k p) same in
        step_here step (subst (λ (q : Path). IsUnsavedAt q w) at unsaved)

  pub one_more_saved : (u : Unit {0}) → SavesAt honest (take i p) G z new H w then (Ok u) → (honest → shown_in R H w ≡ shown_in R G z) → SoFar honest R p F x old (i + 1) H w then
  one_more_saved u t same = record { above = step_above t.ok; below = step_below t.ok; counted = t.counted ∙ s.counted; shown = λ h. same h ∙ s.shown h }

  -- .. or refused
  pub refused_above : (e : Fault) → SavesAt honest (take i p) G z new H w then (Err e) → SavesAbove honest p F x H w
  refused_above e t = subst (SavesAbove honest p F x H) (sym t.err) (same_files G z H s.above t.unchanged)

-- all of them
pub all_saved : (p : Path) (i : ℕ) (x : Row) → length p ≤ i → AreSavedBelow i p x → IsSavedAbove p x
all_saved p i x all below front n rest is =
    let l : length p ≡ length (front ++ n ∷ rest) = ap length is in
    below front n rest is (omega (arith, l, all, length-append front (n ∷ rest)))
