-- Which stamps directories have once a path was walked, or a directory loaded.
use Rattle.std.proofs.Common.{◌≡◌, ◌⊎◌, ◌++◌, ◌∷◌, ℕ, Bool, true, List, [], Option, Some, None, sym, refl, ◌∙◌, ap, subst, inl, inr}
use Rattle.std.proofs.lemmas.Bool.{false≢true}
use Rattle.std.proofs.lemmas.List.{append-nil}
use Rattle.std.proofs.lemmas.Option.{same_Some, none-some}
use Rattle.std.specs.Option.{option_map, option_and_then, is_some}
use Rattle.eden_model.specs.declared.world.World.{Ghosts}
use Rattle.eden_model.specs.Operations.{is_front}
use Rattle.eden_model.specs.Paths.{behind_of}
use Rattle.eden_model.specs.Trees.{Name, Path, grafted}
use Rattle.eden_model.proofs.CallerLemmas.{behind_sound}
use Rattle.eden_overlay.specs.declared.files.Files.{Ghosts as Files}
use Rattle.eden_tree.specs.Directory.{Row, Directory, child_of, with_child}
use Rattle.eden_tree.specs.Rows.{find_row}
use Rattle.eden_tree.specs.Paths.{row_at, edit_row, stamped_along, Standing, standing, standing_at, stamped}
use Rattle.eden_tree.proofs.CallerLemmas.{stamps_along, reads_on, edits_one, row_at-unloaded, child_of-with_child}
use Rattle.eden_coupling.specs.Loading.{IsNew}
use Rattle.eden_coupling.proofs.CallerLemmas.{none_inside}
use Rattle.eden_inode.specs.Tables.{Table}
use Rattle.eden_ops.specs.Keeping.{LeadsTo, Loads, from_object, without, resumed, Step, stamps, loads, rests, Keeps, same, on}
use Rattle.eden_ops.specs.Laws.{KeepsStamps}
use Rattle.eden_ops.specs.Stamps.{stamp_at, StampsTowards, IsWalked}
use Rattle.eden_ops.proofs.Steps.{leads_front, keeps_counts}

-- ---- by what stands at a path

abbrev pub stamp_of : Option Standing → Option ℕ
stamp_of o = option_and_then (λ (v : Standing). option_map (λ (l : ℕ × Bool). l.0) v.loaded) o

abbrev pub stamp_in : Option Row → Option ℕ
stamp_in o = option_map (λ (d : Directory). d.stamp) (option_and_then child_of o)

stamp_standing : (o : Option Row) → stamp_of (option_map standing o) ≡ stamp_in o
stamp_standing None = refl
stamp_standing (Some y) =
    elim (child_of y) as (λ c. option_map (λ (l : ℕ × Bool). l.0) (option_map (λ (d : Directory). (d.stamp, d.unsaved)) c) ≡ option_map (λ (d : Directory). d.stamp) c) [
      | None ↦ refl
      | Some d ↦ refl
    ]

pub standing_stamp : (q : Path) (x : Row) (k : ℕ) → stamp_at q x ≡ Some k → stamp_of (standing_at q x) ≡ Some k
standing_stamp q x k is = stamp_standing (row_at q x) ∙ is

pub stamped_standing : (q : Path) (x : Row) (k : ℕ) → stamp_of (standing_at q x) ≡ Some k → stamp_at q x ≡ Some k
stamped_standing q x k is = sym (stamp_standing (row_at q x)) ∙ is

-- ---- a path that is stamped

is_stamp : (s k : ℕ) (was : Option Standing) → stamp_of (option_map (stamped s) was) ≡ Some k → k ≡ s
is_stamp s k None is = absurd (none-some k is)
is_stamp s k (Some v) is = by v.loaded is where
  by : (l : Option (ℕ × Bool)) → option_map (λ (m : ℕ × Bool). m.0) (option_map (λ (m : ℕ × Bool). (s, m.1)) l) ≡ Some k → k ≡ s
  by None is = absurd (none-some k is)
  by (Some m) is = sym (same_Some s k is)

-- it has the stamp that it had, or it stands on the path
stamped_or : (p : Path) (s : ℕ) (x : Row) (q : Path) (k : ℕ) → stamp_at q (stamped_along p s x) ≡ Some k → (stamp_at q x ≡ Some k) ⊎ ((is_front q p ≡ true) × (k ≡ s))
stamped_or p s x q k is = by (behind_of q p) refl (sym (ap stamp_of (stamps_along p s x q)) ∙ standing_stamp q (stamped_along p s x) k is) where
  by : (o : Option Path) → behind_of q p ≡ o → stamp_of (grafted o (λ r. option_map (stamped s) (standing_at q x)) (standing_at q x)) ≡ Some k → (stamp_at q x ≡ Some k) ⊎
      ((is_front q p ≡ true) × (k ≡ s))
  by None at now = inl (stamped_standing q x k now)
  by (Some r) at now = inr (ap (λ (o : Option Path). is_some o) at, is_stamp s k (standing_at q x) now)

pub walked_along : (p : Path) (s : ℕ) (x : Row) → IsWalked p s (stamped_along p s x)
walked_along p s x q k front is = by (behind_of q p) refl (sym (ap stamp_of (stamps_along p s x q)) ∙ standing_stamp q (stamped_along p s x) k is) where
  by : (o : Option Path) → behind_of q p ≡ o → stamp_of (grafted o (λ r. option_map (stamped s) (standing_at q x)) (standing_at q x)) ≡ Some k → k ≡ s
  by None at now = absurd (false≢true (subst (λ (o : Option Path). is_some o ≡ true) at front))
  by (Some r) at now = is_stamp s k (standing_at q x) now

-- ---- another directory at a path: what is in it was there, or isn't loaded

-- nothing is loaded at or below an entry that isn't
no_stamp : (r : Path) (v : Row) (k : ℕ) → child_of v ≡ None → stamp_in (row_at r v) ≡ Some k → ⊥
no_stamp [] v k none is = none-some k (sym (ap (option_map (λ (d : Directory). d.stamp)) none) ∙ is)
no_stamp (n ∷ r) v k none is = none-some k (sym (ap stamp_in (row_at-unloaded n r v none)) ∙ is)

module _ (p : Path) (x y : Row) (e : Directory) (at : row_at p x ≡ Some y)
    (each : (m : Name) (v : Row) → find_row m e.rows ≡ Some v → (row_at (m ∷ []) y ≡ Some v) ⊎ (child_of v ≡ None)) (k : ℕ) where
  abbrev now : Row
  now = with_child (Some e) y

  below_by : (m : Name) (r : Path) (o : Option Row) → ((v : Row) → o ≡ Some v → (row_at (m ∷ []) y ≡ Some v) ⊎ (child_of v ≡ None))
      → stamp_in (option_and_then (row_at r) o) ≡ Some k → stamp_at (m ∷ r) y ≡ Some k
  below_by m r None was is = absurd (none-some k is)
  below_by m r (Some v) was is = elim (was v refl) [
    | inl there ↦ ap stamp_in (reads_on (m ∷ []) r y ∙ ap (option_and_then (row_at r)) there) ∙ is
    | inr none ↦ absurd (no_stamp r v k none is)
  ]

  here_by : (r : Path) → stamp_at r now ≡ Some k → ((r ≡ []) × (e.stamp ≡ k)) ⊎ (stamp_at r y ≡ Some k)
  here_by [] is = inl (refl, same_Some e.stamp k (sym (ap (option_map (λ (d : Directory). d.stamp)) (child_of-with_child (Some e) y)) ∙ is))
  here_by (m ∷ r) is =
      inr (below_by m r (find_row m e.rows) (each m)
      (sym (ap (λ (c : Option Directory). stamp_in (option_and_then (λ (d : Directory). option_and_then (row_at r) (find_row m d.rows)) c)) (child_of-with_child (Some e) y)) ∙ is))

  by_front : (q : Path) (o : Option Path) → behind_of p q ≡ o → stamp_of (grafted o (λ r. standing_at r now) (standing_at q x)) ≡ Some k → ((q ≡ p) × (e.stamp ≡ k)) ⊎ (stamp_at q x ≡ Some k)
  by_front q None front is = inr (stamped_standing q x k is)
  by_front q (Some r) front is =
      let split : q ≡ p ++ r = behind_sound p q r front in
      elim (here_by r (stamped_standing r now k is)) [
        | inl top ↦ inl (split ∙ ap (λ (s : Path). p ++ s) top.0 ∙ append-nil p, top.1)
        | inr was ↦ inr (ap stamp_in (ap (λ (s : Path). row_at s x) split ∙ reads_on p r x ∙ ap (option_and_then (row_at r)) at) ∙ was)
      ]

  pub stamp_with : (q : Path) → stamp_at q (edit_row p (with_child (Some e)) x) ≡ Some k → ((q ≡ p) × (e.stamp ≡ k)) ⊎ (stamp_at q x ≡ Some k)
  stamp_with q is =
      by_front q (behind_of p q) refl (sym (ap stamp_of (edits_one p (with_child (Some e)) x y q at)) ∙ standing_stamp q (edit_row p (with_child (Some e)) x) k is)

-- ---- the steps

module _ (ps : List Path) (p : Path) (leads : LeadsTo ps p) where
  stamps_path : (s : ℕ) (x : Row) → StampsTowards ps s x (stamped_along p s x)
  stamps_path s x q k is = elim (stamped_or p s x q k is) [ inl was ↦ inl was | inr now ↦ inr (leads_front ps q p now.0 leads, now.1) ]

  loaded_path : (x y : Row) (d : Directory) (s : ℕ) → row_at p x ≡ Some y → IsNew s d → StampsTowards ps s x (stamped_along p s (edit_row p (with_child (Some d)) x))
  loaded_path x y d s at fresh q k is =
      elim (stamps_path s (edit_row p (with_child (Some d)) x) q k is) [
        | inr now ↦ inr now
        | inl was ↦ elim (stamp_with p x y d at (λ m v found. inr (none_inside d fresh.unloaded m v found)) k q was) [
          | inl top ↦ inr (subst (LeadsTo ps) (sym top.0) leads, sym top.1 ∙ fresh.stamp)
          | inr there ↦ inl there
        ]
      ]

module _ {W F : Type 0} (w : Ghosts W) (f : Files F W) where
  load_stamps : (ps : List Path) (s t : Table F) (p : Path) → LeadsTo ps p → Loads w f p s t → StampsTowards ps s.clock s.root t.root
  load_stamps ps s t p leads (from_object id es at tree unsaved l) =
      subst (λ (z : Row). StampsTowards ps s.clock s.root z) (sym l.is) (loaded_path ps p leads s.root at.row l.directory s.clock at.there l.new)
  load_stamps ps s t p leads (without (inl at) l next) = subst (λ (z : Row). StampsTowards ps s.clock s.root z) (sym l.is) (loaded_path ps p leads s.root at.row l.directory s.clock at.there l.new)
  load_stamps ps s t p leads (without (inr at) l next) = subst (λ (z : Row). StampsTowards ps s.clock s.root z) (sym l.is) (loaded_path ps p leads s.root at.row l.directory s.clock at.there l.new)
  load_stamps ps s t p leads (resumed id at l had from next) =
      subst (λ (z : Row). StampsTowards ps s.clock s.root z) (sym l.is) (loaded_path ps p leads s.root at.row l.directory s.clock at.there l.new)

  step_stamps : (ps : List Path) (s t : Table F) → Step w f ps s t → StampsTowards ps s.clock s.root t.root
  step_stamps ps s _ (stamps p leads) = stamps_path ps p leads s.clock s.root
  step_stamps ps s _ (loads t p leads l b) = load_stamps ps s t p leads l
  step_stamps ps s _ (rests t root next b) = subst (λ (z : Row). StampsTowards ps s.clock s.root z) (sym root) (λ q k is. inl is)

  -- once it was looked at
  pub walked_after : (p : Path) (t u : Table F) → u ≡ record t { root = stamped_along p t.clock t.root } → IsWalked p u.clock u.root
  walked_after p t u is = subst (λ (v : Table F). IsWalked p v.clock v.root) (sym is) (walked_along p t.clock t.root)

  pub keeps_stamps : KeepsStamps w f
  keeps_stamps ps s _ same q k is = inl is
  keeps_stamps ps s _ (on t u before step) q k is =
      elim (step_stamps ps t u step q k is) [
        | inl was ↦ keeps_stamps ps s t before q k was
        | inr now ↦ inr (now.0, now.1 ∙ (keeps_counts w f ps s t before).0)
      ]

  -- .. and whatever is loaded and stamped then
  pub walked_on : {ps : List Path} (p : Path) (s t : Table F) → IsWalked p s.clock s.root → Keeps w f ps s t → IsWalked p t.clock t.root
  walked_on {ps = ps} p s t walked kept front k at is =
      elim (keeps_stamps ps s t kept front k is) [ inl was ↦ walked front k at was | inr now ↦ now.1 ] ∙ sym (keeps_counts w f ps s t kept).0
