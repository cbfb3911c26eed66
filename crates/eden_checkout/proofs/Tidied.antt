-- Files without orphans show the same.
use Rattle.std.proofs.Common.{◌≡◌, ◌≢◌, ℕ, true, false, Option, Some, None, List, [], All, Contains, sym, refl, ◌∙◌, ap, subst, inl, inr, arith}
use Rattle.std.specs.Option.{IsSome, option_and_then}
use Rattle.std.proofs.lemmas.Option.{same_Some, none-some}
use Rattle.std.proofs.Math.Path.{fun_ext}
use Rattle.std.proofs.lemmas.List.Elements.{All-contains, All-from_recursion}
use Rattle.eden_model.specs.declared.id.Id.{Id}
use Rattle.eden_model.specs.Limits.{number_end}
use Rattle.eden_model.specs.Numbers.{Numbers}
use Rattle.eden_model.specs.Repository.{Repository}
use Rattle.eden_model.specs.Trees.{Path, Tree}
use Rattle.eden_overlay_format.specs.declared.state.State.{State}
use Rattle.eden_overlay_format.specs.declared.stored_entry.StoredEntry.{StoredEntry}
use Rattle.eden_overlay_format.specs.Values.{state_in}
use Rattle.eden_overlay.specs.Counting.{root_from}
use Rattle.eden_overlay.specs.Files.{Stored, ListsNumbers}
use Rattle.eden_overlay.specs.Held.{HoldsState, without}
use Rattle.eden_overlay.specs.Soundness.{Names, AreSound}
use Rattle.eden_overlay.specs.Tidying.{IsOrphan, IsTidiedInPart, ListsOrphans, OthersStay}
use Rattle.eden_overlay.proofs.CallerLemmas.{put_apart, numbers_from_two, root_stays, named_stays, still_sound, root_same}
use Rattle.eden_tree.specs.Directory.{Row}
use Rattle.eden_coupling.specs.Listings.{top}
use Rattle.eden_coupling.specs.NumberKept.{KeepsNumbers, SameNumbers}
use Rattle.eden_coupling.specs.Numberings.{in_files, numbers}
use Rattle.eden_coupling.specs.Shown.{shown_in}
use Rattle.eden_coupling.proofs.CallerLemmas.{Backs, backed_alike, orphans_go}
use Rattle.eden_inode.specs.Tables.{fresh_root}
use Rattle.eden_checkout.specs.declared.opening.Opening.TheVariants as opening
use Rattle.eden_checkout.specs.Opening.{AreNone, CanOpen, Finds, files_number, files_show, FilesKeep}
use Rattle.eden_checkout.specs.Tidying.{AreTidied, LackOrphans, IsClosed, IsClosedOver, ShowsSame, StaysClosed}
use Rattle.eden_checkout.proofs.Listed.{root_row, RowKeeps, row_keeps, keeps_row, number_is, shown_is}
use Rattle.eden_checkout.proofs.Opened.{backed_as, none_held, row_fits}

module _ (F : Stored) (over : Id) (G : Stored) (sound : AreSound F) (stay : OthersStay F over G) where
  no_state : (c : ℕ) (e : StoredEntry) → Names F c e → 0 ≢ e.number
  no_state c e names is = let least = numbers_from_two F c e names in omega (arith, is, least)

  module _ (R : Repository) (root : Id) where
    before : Backs (without F 0) F (root_row root F) number_end
    before = record {
      fits = row_fits root F sound;
      same = λ c e live names own away. inl (put_apart F 0 e.number None (no_state c e names));
      same_root = λ none. inl (put_apart F 0 1 None (λ is. omega (arith, is)));
    }

    after : Backs (without G 0) F (root_row root F) number_end
    after = record {
      fits = row_fits root F sound;
      same = λ c e live names own away. inl (put_apart G 0 e.number None (no_state c e names) ∙ named_stays F over G stay c e live names);
      same_root = λ none. inl (put_apart G 0 1 None (λ is. omega (arith, is)) ∙ root_stays F over G stay);
    }

    shows_same : files_show R root G ≡ files_show R root F
    shows_same =
        shown_is R root G
        ∙ ap (λ (f : Option (List ℕ)). shown_in R (without G 0) (fresh_root (root_from root f))) (root_same G F (root_stays F over G stay))
        ∙ backed_alike R (without F 0) (without G 0) F (root_row root F) number_end before after (root_row root F) top
        ∙ sym (shown_is R root F)

  pub same_shown : ShowsSame F G
  same_shown R root = shows_same R root

  -- the state is as it was
  held_before : (s : State) → HoldsState G s → HoldsState F s
  held_before s held = ap (option_and_then state_in) (sym (stay 0 (λ orphan. let least = orphan.least in absurd (omega (arith, least))))) ∙ held

  -- .. and over its tree, what files show of numbers
  module _ (R : Repository) (root : Id) (next : ℕ) (lack : LackOrphans F G) (held : HoldsState F (record { root = root; next = next })) (keeps : RowKeeps R root F next) where
    over_root : root_row root G ≡ root_row root F
    over_root = ap (λ (o : Option (List ℕ)). fresh_root (root_from root o)) (root_same G F (root_stays F over G stay))

    goes : SameNumbers R F (root_row root F) G (root_row root F) next
    goes = orphans_go R F G root (root_row root F) next (record { number = refl; is_dir = refl; away = refl; from = refl })
        (lack root (inr (record { root = root; next = next }, (held, refl)))) keeps

    numbers_kept : RowKeeps R root G next
    numbers_kept = subst (λ (x : Row). KeepsNumbers R G x next) (sym over_root) goes.keeps

    -- .. which show the same numbers
    numbered_same : (p : Path) → files_number root G p ≡ files_number root F p
    numbered_same p = number_is root G p ∙ ap (λ (x : Row). numbers (in_files G) x p) over_root ∙ goes.same p ∙ sym (number_is root F p)

  -- where no files are left there were none
  none_before : IsClosed F → AreNone G → G ≡ F
  none_before (inl before) none = fun_ext (λ k. none k ∙ sym (before k))
  none_before (inr (s, held)) none = absurd (none_held G s none (ap (option_and_then state_in) state_stays_there ∙ held)) where
    state_stays_there : G 0 ≡ F 0
    state_stays_there = stay 0 (λ orphan. let least = orphan.least in absurd (omega (arith, least)))

  module _ (lack : LackOrphans F G) (closed : IsClosed F) (R : Repository) (tree : Tree) (N : Numbers) (root : Id) (can : CanOpen R tree N root F) where
    still_kept : (next : ℕ) → Finds opening.Closed root G next → FilesKeep R tree N root G next
    still_kept next (inl at) =
        let same = none_before closed at.0 in
        subst (λ (H : Stored). FilesKeep R tree N root H next) (sym same) (can.kept next (inl (subst AreNone same at.0, at.1)))
    still_kept next (inr held) =
        let before = held_before (record { root = root; next = next }) held in
        let keep = can.kept next (inr before) in
        let row = row_keeps R root F tree N next keep in
        keeps_row R root G tree N next (still_sound F over G stay sound) (shows_same R root ∙ keep.shown)
        (backed_as N (files_number root F) (files_number root G) next keep.backed (numbered_same R root next lack before row))
        (numbers_kept R root next lack before row)

  pub stays_closed : LackOrphans F G → IsClosed F → StaysClosed F G
  stays_closed lack closed R tree N root can = record { kept = still_kept lack closed R tree N root can }

-- files that are as they were
pub unchanged_shown : (F G : Stored) → G ≡ F → ShowsSame F G
unchanged_shown F G same R root = ap (files_show R root) same

-- ---- over which commit's tree

-- that of the state
pub over_state : (F : Stored) (state : State) → HoldsState F state → (root : Id) → IsClosedOver root F → state.root ≡ root
over_state F state held root (inl none) = absurd (none-some state (sym (ap (option_and_then state_in) (none 0)) ∙ held))
over_state F state held root (inr (s, (other, is))) = ap (λ (t : State). t.root) (same_Some state s (sym held ∙ other)) ∙ is

pub closed_over : (F : Stored) → IsClosed F → (root : Id) × IsClosedOver root F
closed_over F (inl none) = (record { bytes = [] }, inl none)
closed_over F (inr (s, held)) = (s.root, inr (s, (held, refl)))

-- no numbers are those of no files
pub none_stored : (F : Stored) (ks : List ℕ) → ListsNumbers ks F → ks ≡ [] → AreNone F
none_stored F ks lists empty k = by_file (F k) refl
  where
    by_file : (o : Option (List ℕ)) → F k ≡ o → F k ≡ None
    by_file None is = is
    by_file (Some bytes) is =
        let there = subst (λ (l : List ℕ). Contains l k) empty (lists.all k (subst (λ (o : Option (List ℕ)). IsSome o) (sym is) refl)) in
        let within = there.1 in
        absurd (omega (arith, within))

-- where there are no files, there are no orphans
pub none_listed : (F : Stored) (ks : List ℕ) → AreNone F → ks ≡ [] → (root : Id) → ListsOrphans ks F root
none_listed F ks none empty root = subst (λ (l : List ℕ). ListsOrphans l F root) (sym empty) (record {
  each = All-from_recursion (IsOrphan F root) [] tt;
  all = λ k orphan. let wrong : false ≡ true = subst (λ (o : Option (List ℕ)). IsSome o) (none k) orphan.stored in absurd (cc);
})

-- the orphans of the state's tree
pub listed_over : (F : Stored) (ks : List ℕ) (state : State) → HoldsState F state → ListsOrphans ks F state.root → (root : Id) → IsClosedOver root F → ListsOrphans ks F root
listed_over F ks state held lists root over = subst (ListsOrphans ks F) (over_state F state held root over) lists

-- ---- some orphans less

abbrev pub ListsEach : List ℕ → Stored → Type 0
ListsEach ks F = (root : Id) → IsClosedOver root F → ListsOrphans ks F root

pub nothing_lacks : (F G : Stored) → G ≡ F → LackOrphans F G
nothing_lacks F G same root over = record {
  others = λ k other. ap (λ (X : Stored). X k) same;
  each = λ k. inl (ap (λ (X : Stored). X k) same);
}

module _ (F now G : Stored) (ks : List ℕ) (same : now ≡ F) (lists : ListsEach ks F) where
  pub may_go : IsClosed F → (root : Id) × All (IsOrphan now root) ks
  may_go closed = let at = closed_over F closed in (at.0, subst (λ (X : Stored). All (IsOrphan X at.0) ks) (sym same) (lists at.0 at.1).each)

  pub lacks : ((root : Id) → All (IsOrphan now root) ks → IsTidiedInPart now root G) → LackOrphans F G
  lacks part root over =
      subst (λ (X : Stored). IsTidiedInPart X root G) same (part root (subst (λ (X : Stored). All (IsOrphan X root) ks) (sym same) (lists root over).each))

  pub tidied : LackOrphans F G → All (λ k. G k ≡ None) ks → AreTidied F G
  tidied lack gone root over = record {
    others = (lack root over).others;
    gone = λ k orphan. All-contains (λ j. G j ≡ None) ks k gone ((lists root over).all k orphan);
  }

module _ (F G : Stored) (sound : AreSound F) (closed : IsClosed F) (lack : LackOrphans F G) where
  pub lacking_shown : ShowsSame F G
  lacking_shown = let at = closed_over F closed in same_shown F at.0 G sound (lack at.0 at.1).others

  pub lacking_closed : StaysClosed F G
  lacking_closed = let at = closed_over F closed in stays_closed F at.0 G sound (lack at.0 at.1).others lack closed
