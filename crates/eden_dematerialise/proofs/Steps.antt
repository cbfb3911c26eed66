-- One directory after another, and the state at the end.
use Rattle.std.proofs.Common.{◌≡◌, ◌∙◌, ◌≤◌, ℕ, List, Option, Some, None, true, Result, Ok, Err, OnOk, OnErr, refl, sym, ap, subst, inl, inr, arith}
use Rattle.std.specs.Option.{is_some, option_and_then}
use Rattle.std.proofs.lemmas.Option.{same_Some}
use Rattle.eden_model.specs.declared.id.Id.{Id}
use Rattle.eden_model.specs.declared.tree_entry.TreeEntry.{TreeEntry}
use Rattle.eden_model.specs.Repository.{Repository}
use Rattle.eden_model.specs.Trees.{Path}
use Rattle.eden_overlay_format.specs.declared.header.Identifier.TheVariants as identifier
use Rattle.eden_overlay_format.specs.declared.state.State.{State}
use Rattle.eden_overlay_format.specs.declared.stored_entry.StoredEntry.{StoredEntry}
use Rattle.eden_overlay_format.specs.Directory.{directory_body}
use Rattle.eden_overlay_format.specs.State.{IsGoodState}
use Rattle.eden_overlay_format.specs.Stored.{stored_as}
use Rattle.eden_overlay_format.specs.Values.{state_in}
use Rattle.eden_overlay_format.proofs.CallerLemmas.{state_written}
use Rattle.eden_overlay.specs.declared.files.FilesFault.{FilesFault}
use Rattle.eden_overlay.specs.Files.{Stored, with_file}
use Rattle.eden_overlay.specs.Counting.{NumbersAreSound, root_from}
use Rattle.eden_overlay.specs.Held.{HoldsEntries, HoldsState, root_file, with_entries, with_state}
use Rattle.eden_overlay.specs.Soundness.{AreSound}
use Rattle.eden_overlay.proofs.CallerLemmas.{put_apart}
use Rattle.eden_snapshot.specs.Showing.{FilesShow}
use Rattle.eden_dematerialise.specs.Dematerialising.{Dematerialises, Leads, ShowTheSame, Stand, moved_to}
use Rattle.eden_dematerialise.proofs.Alike.{Alike, state_apart, step}
use Rattle.eden_dematerialise.proofs.Shown.{same_shown}
use Rattle.eden_dematerialise.proofs.Sound.{sound_stays, numbers_stay}

module _ (R : Repository) where
  pub then : (top : ℕ) (to : Id) (F G H : Stored) → Dematerialises R top to F G → Dematerialises R top to G H → Dematerialises R top to F H
  then top to F G H first Dematerialises.begun = first
  then top to F G H first (Dematerialises.stored K d tree commit es ts more least leads had held stand) =
      Dematerialises.stored K d tree commit es ts (then top to F G K first more) least leads had held stand

  pub nothing : (top : ℕ) (to : Id) (F G : Stored) → G ≡ F → Dematerialises R top to F G
  nothing top to F G is = subst (Dematerialises R top to F) (sym is) Dematerialises.begun

  one : (top : ℕ) (to : Id) (F G : Stored) (d : ℕ) (tree : Id) (commit : List TreeEntry) (es ts : List StoredEntry) → 1 ≤ d → Leads R F top to d tree
      → R.tree tree ≡ Some commit → HoldsEntries F d es → Stand R F commit es ts → G ≡ with_entries F d ts → Dematerialises R top to F G
  one top to F G d tree commit es ts least leads had held stand is =
      subst (Dematerialises R top to F) (sym is) (Dematerialises.stored F d tree commit es ts Dematerialises.begun least leads had held stand)

  -- .. whether it could be stored or not
  pub stored_or_not : (r : Result (Unit {0}) FilesFault) (top : ℕ) (to : Id) (F G : Stored) (d : ℕ) (tree : Id) (commit : List TreeEntry) (bytes : List ℕ)
      (es ts : List StoredEntry) → OnOk r (G ≡ with_file F d (Some bytes)) → OnErr r (G ≡ F) → bytes ≡ stored_as identifier.Directory (directory_body ts)
      → 1 ≤ d → Leads R F top to d tree → R.tree tree ≡ Some commit → HoldsEntries F d es → Stand R F commit es ts → Dematerialises R top to F G
  stored_or_not (Ok v) top to F G d tree commit bytes es ts ok err is least leads had held stand =
      one top to F G d tree commit es ts least leads had held stand (ok ∙ ap (λ b. with_file F d (Some b)) is)
  stored_or_not (Err e) top to F G d tree commit bytes es ts ok err is least leads had held stand = nothing top to F G err

  -- what stays, whatever was dematerialised
  pub record Stays (F G : Stored) : Type 0 where
    pub shown : (root : Id) (p : Path) → FilesShow R root G p ≡ FilesShow R root F p
    pub sound : AreSound F → AreSound G
    pub numbers : (root : Id) → NumbersAreSound F root → NumbersAreSound G root
    pub root : is_some (root_file G) ≡ is_some (root_file F)
    pub state : G 0 ≡ F 0

  same_from : (root : Id) (o q : Option (List ℕ)) → is_some q ≡ is_some o → root_from root q ≡ root_from root o
  same_from root None None is = refl
  same_from root None (Some b) is = absurd (cc)
  same_from root (Some a) None is = absurd (cc)
  same_from root (Some a) (Some b) is = refl

  pub all_stay : (top : ℕ) (to : Id) (F G : Stored) → Dematerialises R top to F G → Stays F G
  all_stay top to F G Dematerialises.begun = record { shown = λ root p. refl; sound = λ s. s; numbers = λ root s. s; root = refl; state = refl }
  all_stay top to F H (Dematerialises.stored G d tree commit es ts more least leads had held stand) =
      let was = all_stay top to F G more in
      let alike : Alike R G H = step R G d commit es ts held stand in
      record {
        shown = λ root p. same_shown R G H alike root root (inr refl) p ∙ was.shown root p;
        sound = λ s. sound_stays R G H alike (was.sound s);
        numbers = λ root s. numbers_stay R G H alike root root (same_from root (root_file G) (root_file H) alike.root) (was.numbers root s);
        root = alike.root ∙ was.root;
        state = put_apart G d 0 (Some (stored_as identifier.Directory _)) (λ is. let d_is = is in absurd (omega (arith, d_is, least))) ∙ was.state;
      }

  -- ---- the state

  state_same : (F G : Stored) (s t : State) → G 0 ≡ F 0 → HoldsState F s → HoldsState G t → t ≡ s
  state_same F G s t same had has = same_Some t s (sym has ∙ ap (option_and_then state_in) same ∙ had)

  pub unmoved : (top : ℕ) (to : Id) (F G : Stored) → Dematerialises R top to F G → ShowTheSame R F G
  unmoved top to F G became =
      let stays = all_stay top to F G became in
      record {
        shown = λ s t had has p. ap (λ (x : State). FilesShow R x.root G p) (state_same F G s t stays.state had has) ∙ stays.shown s.root p;
        sound = stays.sound;
        numbers = λ s t had has sound. subst (λ (x : State). NumbersAreSound G x.root) (sym (state_same F G s t stays.state had has)) (stays.numbers s.root sound);
        next = λ s t had has. ap (λ (x : State). x.next) (state_same F G s t stays.state had has);
      }

  from_own : (root to : Id) (o q : Option (List ℕ)) → is_some q ≡ is_some o → is_some o ≡ true → root_from to q ≡ root_from root o
  from_own root to None q same is = absurd (cc)
  from_own root to (Some a) None same is = absurd (cc)
  from_own root to (Some a) (Some b) same is = refl

  pub moved_on : (F G : Stored) (s : State) (to : Id) → Dematerialises R 1 to F G → HoldsState F s → IsGoodState (moved_to to s) → is_some (root_file F) ≡ true
      → ShowTheSame R F (with_state G (moved_to to s))
  moved_on F G s to became holds good rooted =
      let H = with_state G (moved_to to s) in
      let stays = all_stay 1 to F G became in
      let alike : Alike R G H = state_apart R G (moved_to to s) in
      let still : is_some (root_file G) ≡ true = stays.root ∙ rooted in
      let is_now : (t : State) → HoldsState H t → t ≡ moved_to to s = λ t has. same_Some t (moved_to to s) (sym has ∙ state_written (moved_to to s) good) in
      record {
        shown = λ x t had has p.
            ap (λ (y : State). FilesShow R y.root H p) (is_now t has) ∙ same_shown R G H alike x.root to (inl still) p ∙ stays.shown x.root p;
        sound = λ sound. sound_stays R G H alike (stays.sound sound);
        numbers = λ x t had has sound.
            subst (λ (y : State). NumbersAreSound H y.root) (sym (is_now t has))
            (numbers_stay R G H alike x.root to (from_own x.root to (root_file G) (root_file H) alike.root still) (stays.numbers x.root sound));
        next = λ x t had has. ap (λ (y : State). y.next) (is_now t has ∙ ap (moved_to to) (state_same F F x s refl had holds));
      }
