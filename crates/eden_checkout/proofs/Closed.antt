-- Files as they are when a checkout is closed.
use Rattle.std.proofs.Common.{◌≡◌, ◌≢◌, ℕ, List, Option, Some, None, Result, Ok, Err, OnOk, OnErr, sym, refl, ◌∙◌, ap, subst, inl, inr}
use Rattle.std.proofs.lemmas.Option.{same_Some}
use Rattle.eden_model.specs.declared.id.Id.{Id}
use Rattle.eden_model.specs.declared.kind.Kind.TheVariants as kind
use Rattle.eden_model.specs.declared.kind.Origin.{Origin}
use Rattle.eden_model.specs.declared.kind.Origin.TheVariants as origin
use Rattle.eden_model.specs.Backing.{Backs}
use Rattle.eden_model.specs.Numbers.{Numbers}
use Rattle.eden_model.specs.Repository.{Repository, source_of, ground_with}
use Rattle.eden_model.specs.Trees.{Path}
use Rattle.eden_model.specs.Shown.{shown}
use Rattle.eden_overlay_format.specs.declared.state.State.{State}
use Rattle.eden_overlay_format.specs.declared.header.Identifier.TheVariants as identifier
use Rattle.eden_overlay_format.specs.Stored.{stored_as}
use Rattle.eden_overlay_format.specs.State.{IsGoodState, state_body}
use Rattle.eden_overlay_format.proofs.CallerLemmas.{state_written}
use Rattle.eden_overlay.specs.declared.files.FilesFault.{FilesFault}
use Rattle.eden_overlay.specs.Counting.{root_from}
use Rattle.eden_overlay.specs.Files.{Stored}
use Rattle.eden_overlay.specs.Held.{HoldsState, with_state, without, own_files, root_file}
use Rattle.eden_overlay.specs.Soundness.{HoldsKind}
use Rattle.eden_overlay.proofs.CallerLemmas.{nothing_at_root}
use Rattle.eden_tree.specs.Directory.{Child, unloaded, loaded, Row, directory_in, child_of}
use Rattle.eden_coupling.specs.Chains.{AreSaved}
use Rattle.eden_coupling.specs.Kept.{IsTable, IsKept}
use Rattle.eden_coupling.specs.Laws.{TiesSound}
use Rattle.eden_coupling.specs.Loose.{the_state}
use Rattle.eden_coupling.specs.NumberKept.{KeepsNumbers}
use Rattle.eden_coupling.specs.Numberings.{in_files, numbers}
use Rattle.eden_coupling.specs.Shown.{shown_in, shown_away}
use Rattle.eden_coupling.specs.ShownLaws.{ShowsFiles, ShowsAway}
use Rattle.eden_coupling.proofs.CallerLemmas.{loose_kept, loose_alike, state_comes}
use Rattle.eden_inode.specs.Tables.{fresh_root}
use Rattle.eden_ops.specs.Changes.{StaysOrBecomesOwn}
use Rattle.eden_checkout.specs.declared.opening.Opening.TheVariants as opening
use Rattle.eden_checkout.specs.Opening.{files_show, files_number, FilesKeep, Finds, IsRootOf, CanOpen}
use Rattle.eden_checkout.proofs.Listed.{root_row, keeps_row, number_is, shown_is}
use Rattle.eden_checkout.proofs.Opened.{backed_as, none_held}

pub still_root : (id : Id) (a b : Origin) → IsRootOf id a → b ≡ a → IsRootOf id b
still_root id a b is same = subst (IsRootOf id) (sym same) is

-- .. and after any attempt the root is the commit's, or the mount's own
pub comes_from : (id : Id) (a b : Origin) → IsRootOf id a → StaysOrBecomesOwn a b → IsRootOf id b
comes_from id a b is (inl same) = still_root id a b is same
comes_from id a b is (inr own) = inr own

-- a root that isn't loaded is a fresh one
bare : (k : Child) → directory_in k ≡ None → k ≡ unloaded
bare unloaded none = refl
bare (loaded s u r) none = cc

is_fresh : (x : Row) (next : ℕ) → IsTable x next → child_of x ≡ None → x ≡ fresh_root x.origin
is_fresh x next table none = let shut = bare x.child none in
    ap (λ n. record { number = n; kind = x.kind; origin = x.origin; child = x.child }) table.root
    ∙ ap (λ k. record { number = 1; kind = k; origin = x.origin; child = x.child }) table.kind
    ∙ ap (λ c. record { number = 1; kind = kind.Dir; origin = x.origin; child = c }) shut

-- the root has a file where it is the mount's own, and nowhere else
root_stands : (root : Id) (F : Stored) (o : Origin) (f : Option (List ℕ)) → root_file F ≡ f → IsRootOf root o → (o ≢ origin.Own → root_file F ≡ None)
    → (o ≡ origin.Own → HoldsKind F 1 kind.Dir) → root_from root f ≡ o
root_stands root F o None is (inl object) rootless rooted = sym object
root_stands root F o None is (inr own) rootless rooted = absurd (nothing_at_root F kind.Dir is (rooted own))
root_stands root F o (Some b) is (inr own) rootless rooted = sym own
root_stands root F o (Some b) is (inl object) rootless rooted = let none : Some b ≡ None = sym is ∙ rootless (λ own. cc) in cc

-- a root shows of the files what a fresh one does
away_shown : (R : Repository) (F : Stored) (x : Row) (next : ℕ) → IsTable x next → shown_away R F (fresh_root x.origin) ≡ shown_away R F x
away_shown R F x next table =
    ap (λ n. shown (ground_with R (own_files F)) (record { kind = kind.Dir; source = source_of n x.origin })) (sym table.root)
    ∙ ap (λ k. shown (ground_with R (own_files F)) (record { kind = k; source = source_of x.number x.origin })) (sym table.kind)

-- where no loaded directory is unsaved, the files show what memory and files show together
pub saved_shown : (R : Repository) (F : Stored) (x : Row) (next : ℕ) (root : Id) → IsTable x next → IsKept R F x next → IsRootOf root x.origin → ShowsFiles → ShowsAway
    → AreSaved x → files_show R root F ≡ shown_in R F x
saved_shown R F x next root table kept of files away saved =
    shown_is R root F
    ∙ ap (λ (o : Origin). shown_in R (without F 0) (fresh_root o)) (root_stands root F x.origin (root_file F) refl of kept.ties.rootless kept.ties.rooted)
    ∙ away R (without F 0) (fresh_root x.origin) refl
    ∙ away_shown R (without F 0) x next table
    ∙ sym (files R (without F 0) x next table (loose_kept R F x next 0 None table kept (the_state refl)) saved)
    ∙ loose_alike R F x next 0 None table kept (the_state refl)

module _ (R : Repository) (F : Stored) (x : Row) (next : ℕ) (root : Id) (table : IsTable x next) (kept : IsKept R F x next) (none : child_of x ≡ None) (of : IsRootOf root x.origin)
    (sound : TiesSound) where
  root_there : root_row root F ≡ x
  root_there = ap fresh_root (root_stands root F x.origin (root_file F) refl of kept.ties.rootless kept.ties.rooted) ∙ sym (is_fresh x next table none)

  pub shows_on : files_show R root F ≡ shown_in R F x
  shows_on =
      shown_is R root F
      ∙ ap (λ (o : Origin). shown_in R (without F 0) (fresh_root o)) (root_stands root F x.origin (root_file F) refl of kept.ties.rootless kept.ties.rooted)
      ∙ ap (shown_in R (without F 0)) (sym (is_fresh x next table none))
      ∙ loose_alike R F x next 0 None table kept (the_state refl)

  -- the files show the numbers that the table does
  pub files_numbered : (p : Path) → numbers (in_files F) x p ≡ files_number root F p
  files_numbered p = ap (λ (y : Row). numbers (in_files F) y p) (sym root_there) ∙ sym (number_is root F p)

  module _ (N : Numbers) (backs : Backs N (numbers (in_files F) x) next) (held : HoldsState F (record { root = root; next = next })) where
    next_held : (later : ℕ) → HoldsState F (record { root = root; next = later }) → next ≡ later
    next_held later other = ap (λ (s : State). s.next) (same_Some (record { root = root; next = next }) (record { root = root; next = later }) (sym held ∙ other))

    can_keep : KeepsNumbers R F x next → (later : ℕ) → Finds opening.Closed root F later → FilesKeep R (shown_in R F x) N root F later
    can_keep keeps later (inl none) = absurd (none_held F (record { root = root; next = next }) none.0 held)
    can_keep keeps later (inr other) =
        subst (FilesKeep R (shown_in R F x) N root F) (next_held later other) (keeps_row R root F (shown_in R F x) N next (sound F kept.full x next kept.ties) shows_on
        (backed_as N (numbers (in_files F) x) (files_number root F) next backs (λ p. sym (files_numbered p)))
        (subst (λ (y : Row). KeepsNumbers R F y next) (sym root_there) keeps))

    pub can_open : KeepsNumbers R F x next → CanOpen R (shown_in R F x) N root F
    can_open keeps = record { kept = can_keep keeps }

pub holds_state : (F : Stored) (s : State) → IsGoodState s → HoldsState (with_state F s) s
holds_state F s good = state_written s good

-- what follows where the call was done
pub on_done : {X Y : Type 0} (r : Result (Unit {0}) FilesFault) → (X → Y) → OnOk r X → OnOk r Y
on_done (Ok v) f h = f h
on_done (Err e) f h = h

-- the state has no numbers
pub state_kept : (R : Repository) (F G : Stored) (x z : Row) (next : ℕ) (s : State) (r : Result (Unit {0}) FilesFault) → KeepsNumbers R F x next → z ≡ x → OnOk r (G ≡ with_state F s)
    → OnErr r (G ≡ F) → KeepsNumbers R G z next
state_kept R F G x z next s (Ok v) keeps root ok err =
    subst (λ (y : Row). KeepsNumbers R G y next) (sym root) (subst (λ (H : Stored). KeepsNumbers R H x next) (sym ok) (state_comes R F x next s keeps).keeps)
state_kept R F G x z next s (Err e) keeps root ok err =
    subst (λ (y : Row). KeepsNumbers R G y next) (sym root) (subst (λ (H : Stored). KeepsNumbers R H x next) (sym err) keeps)

pub state_numbered : (R : Repository) (F G : Stored) (x z : Row) (next : ℕ) (s : State) (r : Result (Unit {0}) FilesFault) → KeepsNumbers R F x next → z ≡ x → OnOk r (G ≡ with_state F s)
    → OnErr r (G ≡ F) → (p : Path) → numbers (in_files G) z p ≡ numbers (in_files F) x p
state_numbered R F G x z next s (Ok v) keeps root ok err p =
    ap (λ (y : Row). numbers (in_files G) y p) root ∙ ap (λ (H : Stored). numbers (in_files H) x p) ok ∙ (state_comes R F x next s keeps).same p
state_numbered R F G x z next s (Err e) keeps root ok err p =
    ap (λ (y : Row). numbers (in_files G) y p) root ∙ ap (λ (H : Stored). numbers (in_files H) x p) err

-- the state shows nothing
pub stored_alike : (R : Repository) (F G : Stored) (x z : Row) (next : ℕ) (s : State) (r : Result (Unit {0}) FilesFault) → IsTable x next → IsKept R F x next → z ≡ x → OnOk r (G ≡ with_state F s)
    → OnErr r (G ≡ F)
    → shown_in R G z ≡ shown_in R F x
stored_alike R F G x z next s (Ok v) table kept root ok err =
    ap (shown_in R G) root ∙ ap (λ (H : Stored). shown_in R H x) ok ∙ loose_alike R F x next 0 (Some (stored_as identifier.File (state_body s))) table kept (the_state refl)
stored_alike R F G x z next s (Err e) table kept root ok err = ap (shown_in R G) root ∙ ap (λ (H : Stored). shown_in R H x) err
