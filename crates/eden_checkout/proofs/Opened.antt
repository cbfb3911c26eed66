-- A table over files as they are opened.
use Rattle.std.proofs.Common.{◌≡◌, ◌≢◌, ◌<◌, ◌⊎◌, ℕ, List, Option, Some, None, Result, Ok, Err, IfErr, IsSome, sym, refl, ◌∙◌, ap, subst, inl, inr, arith}
use Rattle.std.proofs.lemmas.Option.{none-some}
use Rattle.std.proofs.Math.Path.{fun_ext}
use Rattle.std.proofs.lemmas.List.Elements.{All-contains, All-from_recursion}
use Rattle.std.specs.Option.{option_and_then}
use Rattle.std.specs.Result.{IsErrAnd}
use Rattle.eden_model.specs.declared.id.Id.{Id}
use Rattle.eden_model.specs.declared.kind.Kind.TheVariants as kind
use Rattle.eden_model.specs.declared.kind.Origin.{Origin}
use Rattle.eden_model.specs.declared.kind.Origin.TheVariants as origin
use Rattle.eden_model.specs.Backing.{Backs}
use Rattle.eden_model.specs.Failures.{Rose}
use Rattle.eden_model.specs.Limits.{number_end}
use Rattle.eden_model.specs.Numbers.{Numbering, Numbers}
use Rattle.eden_model.specs.Repository.{Repository}
use Rattle.eden_model.specs.Trees.{Path, Tree}
use Rattle.eden_overlay_format.specs.declared.stored_entry.StoredEntry.{StoredEntry}
use Rattle.eden_overlay_format.specs.declared.header.Identifier.TheVariants as identifier
use Rattle.eden_overlay_format.specs.declared.state.State.{State}
use Rattle.eden_overlay_format.specs.Directory.{IsStorable}
use Rattle.eden_overlay_format.specs.Values.{entries_in, state_in}
use Rattle.eden_overlay.specs.declared.fault.GetFault.TheVariants as get
use Rattle.eden_overlay.specs.Getting.{Explains}
use Rattle.eden_overlay.specs.Files.{Stored}
use Rattle.eden_overlay.specs.Held.{HoldsState, without, root_file, numbers_of, saved_at}
use Rattle.eden_overlay.specs.Laws.{IsStray}
use Rattle.eden_overlay.specs.Counting.{root_from}
use Rattle.eden_overlay.specs.Soundness.{Names, IsLive, HoldsKind, AreSound}
use Rattle.eden_overlay.proofs.CallerLemmas.{put_here, put_apart, names_moved, same_or_apart, numbers_from_two, live_stay, state_stays, root_same, held_storable}
use Rattle.eden_tree.specs.Directory.{Row, Directory, child_of}
use Rattle.eden_coupling.specs.Chains.{AreSaved}
use Rattle.eden_coupling.specs.Listings.{Place}
use Rattle.eden_coupling.specs.NumberKept.{KeepsNumbers}
use Rattle.eden_coupling.specs.NumberLoads.{NamesAreShown}
use Rattle.eden_coupling.specs.Numberings.{in_files, numbers}
use Rattle.eden_coupling.specs.Shown.{shown_in}
use Rattle.eden_coupling.specs.Ties.{Fits, Ties}
use Rattle.eden_coupling.proofs.CallerLemmas.{place_cases, fresh_keeps, state_goes}
use Rattle.eden_inode.specs.Tables.{CanStart, fresh_root}
use Rattle.eden_checkout.specs.declared.fault.OpenFault.{OpenFault}
use Rattle.eden_checkout.specs.declared.fault.OpenFault.TheVariants as opens
use Rattle.eden_checkout.specs.declared.opening.Opening.{Opening}
use Rattle.eden_checkout.specs.declared.opening.Opening.TheVariants as opening
use Rattle.eden_checkout.specs.declared.opening.Start.{Start}
use Rattle.eden_checkout.specs.Opening.{files_number, FilesKeep, MayOpen, AreNone, Starts, IsListed, IsTwice, IsDamaged, IsRefusal}
use Rattle.eden_checkout.proofs.Listed.{root_row, RowKeeps, row_keeps, number_is, shown_is}

-- numbers that are shown elsewhere too are backed there
pub backed_as : (N : Numbers) (S T : Numbering) (next : ℕ) → Backs N S next → ((p : Path) → T p ≡ S p) → Backs N T next
backed_as N S T next b same = subst (λ (M : Numbering). Backs N M next) (sym (fun_ext same)) b

own_stands : (root : Id) (o : Option (List ℕ)) → root_from root o ≢ origin.Own → o ≡ None
own_stands root None other = refl
own_stands root (Some b) other = absurd (other refl)

unowned : (root : Id) (o : Option (List ℕ)) → o ≡ None → root_from root o ≢ origin.Own
unowned root None is = λ own. cc
unowned root (Some b) is = cc

pub nothing_named : (F : Stored) → AreNone F → (c : ℕ) (e : StoredEntry) → ¬ Names F c e
nothing_named F none c e n = let h : None ≡ Some n.entries = sym (ap (option_and_then entries_in) (none c)) ∙ n.held in cc

-- no files, no state
pub none_held : (F : Stored) (s : State) → AreNone F → HoldsState F s → ⊥
none_held F s none held = none-some s (sym (ap (option_and_then state_in) (none 0)) ∙ held)

-- no files keep no numbers but the root's
nothing_saved : (F : Stored) → AreNone F → (k : ℕ) (id : Id) → saved_at F k id ≡ None
nothing_saved F none k id = ap (option_and_then (numbers_of id)) (none k)

pub none_keep : (R : Repository) (root : Id) (F : Stored) → AreNone F → RowKeeps R root F 2
none_keep R root F none =
    let from : root_from root (root_file F) ≡ origin.Object root = ap (root_from root) (root_same F (λ k. None) (none 1)) in
    subst (λ (o : Origin). KeepsNumbers R F (fresh_root o) 2) (sym from)
    (fresh_keeps R F (fresh_root (origin.Object root)) 2 refl refl (nothing_saved F none 1 root) (λ k id late. nothing_saved F none k id) (omega arith) (omega arith))

state_stray : (F : Stored) → IsStray F 0
state_stray F = record {
  not_root = λ is. omega (arith, is);
  not_own = λ d e live names own is. (let least = numbers_from_two F d e names in omega (arith, least, is));
}

-- what is named once the state is gone was named before
still_named : (F : Stored) (c : ℕ) (e : StoredEntry) → Names (without F 0) c e → Names F c e
still_named F c e n = by_number (same_or_apart 0 c) where
  by_number : (0 ≡ c) ⊎ (0 ≢ c) → Names F c e
  by_number (inl is) = let h : None ≡ Some n.entries = sym (ap (option_and_then entries_in) (put_here F 0 c None is)) ∙ n.held in cc
  by_number (inr other) = names_moved (without F 0) F c e (put_apart F 0 c None other) n

-- of a fresh root nothing is loaded, and so nothing unsaved
pub fresh_saved : (o : Origin) → AreSaved (fresh_root o)
fresh_saved o y d place holds = elim (place_cases (fresh_root o) y place) [
  | inl is ↦ absurd (none-some d (sym (ap child_of is) ∙ holds))
  | inr b ↦ absurd (none-some b.directory b.holds)
]

-- ---- a table over files, of whose root nothing is loaded

pub numbered : (F : Stored) (c : ℕ) (e : StoredEntry) → Names F c e → e.number < number_end
numbered F c e names =
    (All-contains IsStorable names.entries e (All-from_recursion IsStorable names.entries (held_storable F c names.entries names.held).each) names.there).most

module _ (root : Id) (F : Stored) (sound : AreSound F) where
  none_loaded : (y : Row) (d : Directory) → Place (root_row root F) y → child_of y ≡ Some d → ⊥
  none_loaded y d place holds = elim (place_cases (root_row root F) y place) [
    | inl is ↦ none-some d (sym (ap child_of is) ∙ holds)
    | inr b ↦ none-some b.directory b.holds
  ]

  pub row_fits : Fits F (root_row root F) number_end
  row_fits = record {
    root = refl;
    sound = sound;
    below = λ c e live names. numbered F c e names;
    is_dir = λ y d place holds. absurd (none_loaded y d place holds);
    held = λ y d place holds. absurd (none_loaded y d place holds);
  }

  rooted_from : (root_file F ≡ None) ⊎ HoldsKind F 1 kind.Dir → root_from root (root_file F) ≡ origin.Own → HoldsKind F 1 kind.Dir
  rooted_from (inl none) own = absurd (unowned root (root_file F) none own)
  rooted_from (inr held) own = held

  row_tied : Ties F F (root_row root F) number_end
  row_tied = record {
    fits = row_fits;
    stored = λ y d place holds. absurd (none_loaded y d place holds);
    marked = λ y d place holds. absurd (none_loaded y d place holds);
    same = λ c e live names own away. inl refl;
    same_root = λ away. inl refl;
    rootless = own_stands root (root_file F);
    rooted = rooted_from sound.top;
  }

  module _ (names_shown : NamesAreShown) where
    -- each number that is named is shown, and so below the next one
    names_below : (R : Repository) (next : ℕ) → RowKeeps R root F next → (c : ℕ) (e : StoredEntry) → IsLive F c → Names F c e → e.number < next
    names_below R next keeps c e live names =
        let at = names_shown F F (saved_at F) (root_row root F) number_end refl row_tied c e live names in keeps.shown.below at.0 e.number at.1

    row_starts : (R : Repository) (start : Start) → start.origin ≡ root_from root (root_file F) → RowKeeps R root F start.next → CanStart R (without F 0) start.origin start.next
    row_starts R start from keeps = record {
      rootless = λ other. root_same (without F 0) F (put_apart F 0 1 None (λ is. omega (arith, is))) ∙ own_stands root (root_file F) (λ own. other (from ∙ own));
      rooted = λ own. rooted_from sound.top (sym from ∙ own);
      sound = state_stays F None sound;
      below = λ c e live names. names_below R start.next keeps c e ((live_stay F 0 None (state_stray F) c).0 live) (still_named F c e names);
      numbers = subst (λ (o : Origin). KeepsNumbers R (without F 0) (fresh_root o) start.next) (sym from) (state_goes R F (root_row root F) start.next keeps).keeps;
    }

module _ (R : Repository) (tree : Tree) (N : Numbers) (root : Id) (F : Stored) (how : Opening) (may : MayOpen how R tree N root F)
    (start : Start) (starts : Starts how root F start) where
  kept : FilesKeep R tree N root F start.next
  kept = may.kept start.next starts.next

  kept_row : RowKeeps R root F start.next
  kept_row = row_keeps R root F tree N start.next kept

  pub can_start : NamesAreShown → CanStart R (without F 0) start.origin start.next
  can_start names_shown = row_starts root F kept.sound names_shown R start starts.origin kept_row

  -- the state's file shows no number
  pub number_by : (p : Path) → numbers (in_files (without F 0)) (fresh_root start.origin) p ≡ files_number root F p
  number_by p =
      ap (λ (o : Origin). numbers (in_files (without F 0)) (fresh_root o) p) starts.origin
      ∙ (state_goes R F (root_row root F) start.next kept_row).same p
      ∙ sym (number_is root F p)

  -- what is opened with is backed by them
  pub backed_by : Backs N (files_number root F) start.next
  backed_by = kept.backed

  pub shown_by : shown_in R (without F 0) (fresh_root start.origin) ≡ tree
  shown_by = ap (λ (o : Origin). shown_in R (without F 0) (fresh_root o)) starts.origin ∙ sym (shown_is R root F) ∙ kept.shown

-- where the files that were looked at are those that were given, and nothing failed before, so is the refusal
module _ (honest : Type 0) (F G : Stored) (old looked new : ℕ) (same : honest → G ≡ F) (count : looked ≡ old) where
  pub refused_of : (how : Opening) (root : Id) (fault : OpenFault) → IsRefusal how honest root G looked new fault → IsRefusal how honest root F old new fault
  refused_of how root opens.Device h = subst (λ n. Rose n new) count h
  refused_of how root opens.Memory h = h
  refused_of opening.Closed root opens.NotClean h = λ outside. subst (λ (H : Stored). (H 0 ≡ None) × ((k : ℕ) × IsSome (H k))) (same outside) (h outside)
  refused_of opening.Closed root (opens.OtherRoot stored) h =
      (h.0, λ outside. subst (λ (H : Stored). (s : State) × (HoldsState H s × (s.root ≡ stored))) (same outside) (h.1 outside))
  refused_of opening.Closed root (opens.Damaged k refusal) h =
      (h.0, λ outside. subst (λ (H : Stored). Explains identifier.File state_in (H 0) (get.Damaged refusal)) (same outside) (h.1 outside))
  refused_of opening.Closed root (opens.Dangling k) h = h
  refused_of opening.Closed root (opens.Twice k) h = h
  refused_of opening.Rescan root opens.NotClean h = h
  refused_of opening.Rescan root (opens.OtherRoot stored) h = h
  refused_of opening.Rescan root (opens.Damaged k refusal) h = λ outside. subst (λ (H : Stored). IsDamaged root H k refusal) (same outside) (h outside)
  refused_of opening.Rescan root (opens.Dangling k) h =
      λ outside. subst (λ (H : Stored). (e : StoredEntry) × IsListed root H e × (e.number ≡ k) × (e.origin ≡ origin.Own) × (H k ≡ None)) (same outside) (h outside)
  refused_of opening.Rescan root (opens.Twice k) h =
      λ outside. subst (λ (H : Stored). IsTwice root H k) (same outside) (h outside)

pub refused_over : (honest : Type 0) (how : Opening) (root : Id) (F G : Stored) (old looked new : ℕ) (fault : OpenFault) → how ≡ opening.Rescan → (honest → G ≡ F) → looked ≡ old
    → IsRefusal opening.Rescan honest root G looked new fault → IsRefusal how honest root F old new fault
refused_over honest how root F G old looked new fault is same count why =
    subst (λ (o : Opening). IsRefusal o honest root F old new fault) (sym is) (refused_of honest F G old looked new same count opening.Rescan root fault why)

pub handed_up : {X Y : Type 0} (r : Result X Y) (e : Y) (P : Y → Type 0) → IsErrAnd r (λ (x : Y). x ≡ e) → P e → IfErr r P
handed_up (Ok v) e P is h = tt
handed_up (Err x) e P is h = subst P (sym is) h
