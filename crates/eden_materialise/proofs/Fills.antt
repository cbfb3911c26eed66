-- A content that is stored for a file: what that keeps, and what is shown then.
use Rattle.std.proofs.Common.{◌≡◌, ◌≢◌, ◌≤◌, ℕ, Bool, true, false, MatchBool, List, [], ◌∷◌, ◌++◌, length, Option, Some, None, IsSome, IfSome, Result, Ok, Err, OnOk, OnErr, IfErr, inl}
use Rattle.std.proofs.Common.{inr, refl, sym, ap, ◌∙◌, subst}
use Rattle.eden_model.specs.declared.fault.Fault.{Fault}
use Rattle.eden_model.specs.declared.kind.Kind.{Kind}
use Rattle.eden_model.specs.declared.kind.Kind.TheVariants as kind
use Rattle.eden_model.specs.declared.kind.Origin.{Origin}
use Rattle.eden_model.specs.declared.kind.Origin.TheVariants as origin
use Rattle.eden_model.specs.Repository.{Repository}
use Rattle.eden_model.specs.Shown.{node_from}
use Rattle.eden_model.specs.Trees.{Name, Path, Tree, graft}
use Rattle.eden_overlay_format.specs.Content.{content_most}
use Rattle.eden_overlay_format.specs.Directory.{AreStorable, IsStorable, is_own}
use Rattle.eden_overlay_format.specs.Values.{content_in}
use Rattle.eden_overlay.specs.Files.{Stored}
use Rattle.eden_overlay.specs.Held.{HoldsContent, with_content}
use Rattle.eden_overlay.specs.Soundness.{HoldsKind, AreSound}
use Rattle.eden_overlay.proofs.CallerLemmas.{moved, contents_held}
use Rattle.eden_tree.specs.Directory.{Row, child_of}
use Rattle.eden_coupling.specs.Chains.{NoneMarked, StaysLoaded}
use Rattle.eden_coupling.specs.Changing.{changed}
use Rattle.eden_coupling.specs.Filing.{leaf, HasFile}
use Rattle.eden_coupling.specs.Kept.{IsTable, IsKept}
use Rattle.eden_coupling.specs.Laws.{owned}
use Rattle.eden_coupling.specs.Listings.{stored_entry, listing_of}
use Rattle.eden_coupling.specs.Loose.{IsLoose, other_entry}
use Rattle.eden_coupling.specs.Shown.{shown_in}
use Rattle.eden_coupling.specs.Standing.{MayStand, kept_number}
use Rattle.eden_coupling.proofs.CallerLemmas.{place_at, entry_storable, loose_sound, loose_kept, loose_alike, file_shows, loose_elsewhere, content_sound, content_kept, content_grafts}
use Rattle.eden_materialise.specs.Faults.{IsStoreFault}
use Rattle.eden_materialise.specs.Filing.{not_filed, RefusedBy}
use Rattle.eden_materialise.specs.Fills.{MayFill, FillsFile}
use Rattle.eden_materialise.specs.Listings.{IsHeldFor, PutsEntry, StoresEntry}
use Rattle.eden_materialise.proofs.Filing.{files_ok, files_stored, files_err, files_strays, files_fault, files_counted, files_table, files_marks, files_stay, files_kept, files_unseen, files_shown}
use Rattle.eden_materialise.proofs.Reforms.{each_can}

own_then : (o : Origin) → is_own o ≡ true → o ≡ origin.Own
own_then (origin.Object i) is = absurd (cc)
own_then origin.Own is = refl
own_then origin.Empty is = absurd (cc)

other_then : (o : Origin) → is_own o ≡ false → o ≢ origin.Own
other_then o is own = let both : true ≡ false = ap is_own (sym own) ∙ is in absurd (cc)

held_as : (F : Stored) (k : ℕ) (t : Kind) (content : List ℕ) → t ≢ kind.Dir → HoldsContent F k content → HoldsKind F k t
held_as F k kind.Dir content file held = absurd (file refl)
held_as F k kind.File content file held = (content, held)
held_as F k kind.Exec content file held = (content, held)
held_as F k kind.Link content file held = (content, held)

module _ (honest : Type 0) (R : Repository) (p : Path) (n : Name) (w : Row) (content : List ℕ) (F : Stored) (x : Row) (next : ℕ) (table : IsTable x next)
    (a : HasFile x p n w) (short : length content ≤ content_most) where
  abbrev M : Stored
  M = with_content F w.number content

  abbrev shows : Tree
  shows = leaf (node_from w.kind (Some content) false)

  loose : is_own w.origin ≡ false → IsLoose x next w.number
  loose other = other_entry p a.row a.directory n w a.at a.holds a.there a.unloaded (other_then w.origin other) refl

  pub may_fill : (B : Stored) → (honest → B ≡ M) → MayStand honest R B x next p n (Some (owned w))
  may_fill B is =
      let are : AreStorable (listing_of a.directory) = table.listed a.row a.directory (place_at p x a.row a.at) a.holds in
      let can : IsStorable (stored_entry (n, w)) = each_can n a.directory.rows w are.each a.there in
      let P : Option Row → Type 0 = λ o. IfSome o (λ r. child_of r ≡ None) in
      let Q : Option Row → Type 0 = λ o. IsSome o in
      record {
        row = a.row;
        directory = a.directory;
        at = a.at;
        holds = a.holds;
        may_go = subst P (sym a.there) a.unloaded;
        storable = entry_storable a.directory n (owned w) are (record { name = can.name; origin = tt; least = can.least; most = can.most }) (inl (subst Q (sym a.there) refl));
        unloaded = a.unloaded;
        numbered = kept_number w a.there refl a.file a.file
            (inr (refl, λ h. subst (λ (G : Stored). HoldsKind G w.number w.kind) (sym (is h)) (held_as M w.number w.kind content a.file (contents_held F w.number content short))));
      }

  -- the files with the content
  module _ (k : IsKept R F x next) where
    pub fill_sound : AreSound M
    fill_sound = elim (is_own w.origin) as (λ b. is_own w.origin ≡ b → AreSound M) [
      | true ↦ λ own. content_sound R F x next p n w content table k a (own_then w.origin own) short
      | false ↦ λ other. loose_sound R F x next w.number _ table k (loose other)
    ] refl

    pub filled_kept : IsKept R M x next
    filled_kept = elim (is_own w.origin) as (λ b. is_own w.origin ≡ b → IsKept R M x next) [
      | true ↦ λ own. content_kept R F x next p n w content table k a (own_then w.origin own) short
      | false ↦ λ other. loose_kept R F x next w.number _ table k (loose other)
    ] refl

  -- ---- what was done

  module _ (old : ℕ) (G : Stored) (z : Row) (now : ℕ) where
    abbrev Fills : Result (Unit {0}) Fault → Type 0
    Fills answer = FillsFile honest p n w F M x old G z now answer

    pub fills_ok : (answer : Result (Unit {0}) Fault) → Fills answer → OnOk answer (MatchBool (is_own w.origin) (z ≡ x) (PutsEntry p n (Some (owned w)) x z))
    fills_ok (Err e) c = tt
    fills_ok (Ok u) (inl (own, c)) = subst (λ (b : Bool). MatchBool b (z ≡ x) (PutsEntry p n (Some (owned w)) x z)) (sym own) c.root
    fills_ok (Ok u) (inr (other, c)) =
        subst (λ (b : Bool). MatchBool b (z ≡ x) (PutsEntry p n (Some (owned w)) x z)) (sym other) (files_ok honest p n (owned w) F M x old G z now (Ok u) c)

    pub fills_stored : (answer : Result (Unit {0}) Fault) → Fills answer → honest → OnOk answer (MatchBool (is_own w.origin) (G ≡ M) (StoresEntry p n (Some (owned w)) M x G))
    fills_stored (Err e) c hon = tt
    fills_stored (Ok u) (inl (own, c)) hon = subst (λ (b : Bool). MatchBool b (G ≡ M) (StoresEntry p n (Some (owned w)) M x G)) (sym own) (c.ok hon)
    fills_stored (Ok u) (inr (other, c)) hon =
        subst (λ (b : Bool). MatchBool b (G ≡ M) (StoresEntry p n (Some (owned w)) M x G)) (sym other) (files_stored honest p n (owned w) F M x old G z now (Ok u) c hon)

    pub fills_err : (answer : Result (Unit {0}) Fault) → Fills answer → OnErr answer (z ≡ x)
    fills_err (Ok u) c = tt
    fills_err (Err e) (inl (own, c)) = c.root
    fills_err (Err e) (inr (other, c)) = files_err honest p n (owned w) F M x old G z now (Err e) c

    pub fills_strays : (answer : Result (Unit {0}) Fault) → Fills answer → honest → OnErr answer (RefusedBy F M x p G)
    fills_strays (Ok u) c hon = tt
    fills_strays (Err e) (inl (own, c)) hon = inl (c.err hon)
    fills_strays (Err e) (inr (other, c)) hon = files_strays honest p n (owned w) F M x old G z now (Err e) c hon

    pub fills_fault : (answer : Result (Unit {0}) Fault) → Fills answer → IfErr answer (IsStoreFault old now)
    fills_fault answer (inl (own, c)) = c.fault
    fills_fault answer (inr (other, c)) = files_fault honest p n (owned w) F M x old G z now answer c

    pub fills_counted : (answer : Result (Unit {0}) Fault) → Fills answer → OnOk answer (now ≡ old)
    fills_counted answer (inl (own, c)) = c.counted
    fills_counted answer (inr (other, c)) = files_counted honest p n (owned w) F M x old G z now answer c

    pub fills_table : (answer : Result (Unit {0}) Fault) → Fills answer → IsTable z next
    fills_table answer (inl (own, c)) = subst (λ (r : Row). IsTable r next) (sym c.root) table
    fills_table answer (inr (other, c)) = files_table honest p n (owned w) F M x old G z now R next table may_fill answer c

    pub fills_marks : (answer : Result (Unit {0}) Fault) → Fills answer → NoneMarked x z
    fills_marks answer (inl (own, c)) = subst (NoneMarked x) (sym c.root) (λ q unsaved. unsaved)
    fills_marks answer (inr (other, c)) = files_marks honest p n (owned w) F M x old G z now R next table may_fill answer c

    pub fills_stay : (answer : Result (Unit {0}) Fault) → Fills answer → StaysLoaded x z
    fills_stay answer (inl (own, c)) = subst (StaysLoaded x) (sym c.root) (λ q there. there)
    fills_stay answer (inr (other, c)) = files_stay honest p n (owned w) F M x old G z now R next table may_fill answer c

    module _ (h : honest) (k : IsKept R F x next) where
      kept_over : (H : Stored) → IsKept R H x next → z ≡ x → G ≡ H → IsKept R G z next
      kept_over H kept root same = subst (λ (r : Row). IsKept R G r next) (sym root) (subst (λ (I : Stored). IsKept R I x next) (sym same) kept)

      pub fills_kept : (answer : Result (Unit {0}) Fault) → Fills answer → IsKept R G z next
      fills_kept (Ok u) (inl (own, c)) = kept_over M (filled_kept k) c.root (c.ok h)
      fills_kept (Err e) (inl (own, c)) = kept_over F k c.root (c.err h)
      fills_kept answer (inr (other, c)) = files_kept honest p n (owned w) F M x old G z now R next table may_fill h k (filled_kept k) answer c

      pub fills_unseen : (answer : Result (Unit {0}) Fault) → Fills answer → OnErr answer (shown_in R G z ≡ shown_in R F x)
      fills_unseen (Ok u) c = tt
      fills_unseen (Err e) (inl (own, c)) = ap (λ (r : Row). shown_in R G r) c.root ∙ ap (λ (H : Stored). shown_in R H x) (c.err h)
      fills_unseen (Err e) (inr (other, c)) =
          files_unseen honest p n (owned w) F M x old G z now R next table may_fill h k (filled_kept k)
          (loose_alike R F x next w.number _ table k (loose other)) (Err e) c

      pub fills_shown : (answer : Result (Unit {0}) Fault) → Fills answer → OnOk answer (shown_in R G z ≡ graft (p ++ n ∷ []) shows (shown_in R F x))
      fills_shown (Err e) c = tt
      fills_shown (Ok u) (inl (own, c)) =
          ap (λ (r : Row). shown_in R G r) c.root ∙ ap (λ (H : Stored). shown_in R H x) (c.ok h)
          ∙ content_grafts R F x next p n w content table k a (own_then w.origin own) short
      fills_shown (Ok u) (inr (other, c)) =
          files_shown honest p n (owned w) F M x old G z now R next table may_fill h k (filled_kept k)
          (loose_alike R F x next w.number _ table k (loose other)) shows
          (λ y d at holds up. file_shows R G (owned w) content a.file refl a.unloaded
          (moved content_in (M w.number) (G w.number) content
          (sym (loose_elsewhere R F x next w.number table k (loose other) M p y d (listing_of (changed d n (Some (owned w)))) G at holds up))
          (contents_held F w.number content short)))
          (Ok u) c

-- its store was refused
pub not_filled : (honest : Type 0) (p : Path) (n : Name) (w : Row) (F M : Stored) (x : Row) (old : ℕ) (G : Stored) (now : ℕ) (e : Fault) → (honest → G ≡ F) → IsStoreFault old now e
    → FillsFile honest p n w F M x old G x now (Err e)
not_filled honest p n w F M x old G now e files why =
    elim (is_own w.origin) as (λ b. is_own w.origin ≡ b → FillsFile honest p n w F M x old G x now (Err e)) [
      | true ↦ λ own. inl (own, record { root = refl; ok = λ h. tt; err = files; fault = why; counted = tt })
      | false ↦ λ other. inr (other, not_filed e refl files why)
    ] refl

-- ---- in the place where the entry's file is

module _ (honest : Type 0) (R : Repository) (F : Stored) (x : Row) (p : Path) (n : Name) (content : List ℕ) (f : MayFill honest R F x p n content) (k : ℕ)
    (number : (w : Row) → HasFile x p n w → k ≡ w.number) where
  -- it is the one that the path's directory has
  same_put : (w : Row) → HasFile x p n w → with_content F k content ≡ with_content F w.number content
  same_put w a = ap (λ (j : ℕ). with_content F j content) (number w a)

  pub place_sound : honest → AreSound (with_content F k content)
  place_sound h =
      subst AreSound (sym (same_put f.entry f.has))
      (fill_sound honest R p n f.entry content F x f.next f.table f.has f.short (f.kept h))

  module _ (B : Stored) (is : honest → B ≡ with_content F k content) where
    pub is_put : (w : Row) → HasFile x p n w → honest → B ≡ with_content F w.number content
    is_put w a h = is h ∙ same_put w a

    pub place_held : is_own f.entry.origin ≡ false → IsHeldFor honest R B x p n (Some (owned f.entry))
    place_held other = record {
      next = f.next;
      table = f.table;
      kept = λ h. subst (λ (G : Stored). IsKept R G x f.next) (sym (is_put f.entry f.has h))
          (loose_kept R F x f.next f.entry.number _ f.table (f.kept h)
          (loose honest R p n f.entry content F x f.next f.table f.has f.short other));
      may = may_fill honest R p n f.entry content F x f.next f.table f.has f.short B (is_put f.entry f.has);
    }
