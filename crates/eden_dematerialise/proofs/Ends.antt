-- How it ends.
use Rattle.std.proofs.Common.{◌≡◌, ◌∙◌, ℕ, Option, Some, None, Bool, true, false, Result, Ok, Err, OnOk, OnErr, refl, sym, ap, subst, arith}
use Rattle.std.specs.Option.{is_some, option_and_then}
use Rattle.eden_model.specs.declared.id.Id.{Id}
use Rattle.eden_model.specs.Repository.{Repository}
use Rattle.eden_overlay_format.specs.declared.state.State.{State}
use Rattle.eden_overlay_format.specs.State.{IsGoodState}
use Rattle.eden_overlay_format.specs.Values.{state_in}
use Rattle.eden_overlay.specs.Files.{Stored}
use Rattle.eden_overlay.specs.Held.{HoldsState, root_file, with_state}
use Rattle.eden_overlay_format.specs.declared.stored_entry.StoredEntry.{StoredEntry}
use Rattle.eden_overlay.specs.Soundness.{IsLive, Names, below, here}
use Rattle.eden_overlay.proofs.CallerLemmas.{entries_at_root}
use Rattle.eden_dematerialise.specs.Dematerialising.{AreDematerialised, AreMoved, AreSoFar, Dematerialises, HasNoneUnread, Leads, Moves, NoneIsLeft, RemovesUnread, ShowTheSame, moved_to}
use Rattle.eden_dematerialise.proofs.Left.{none_moves}
use Rattle.eden_dematerialise.proofs.Removed.{none_still, nothing_removed, numbers_still, state_kept, still_sound}
use Rattle.eden_dematerialise.proofs.Seen.{still_shown}
use Rattle.eden_dematerialise.proofs.Steps.{all_stay, moved_on, unmoved}

module _ (R : Repository) where
  -- ---- at the end

  state_before : (to : Id) (F G : Stored) (s : State) → Dematerialises R 1 to F G → HoldsState G s → HoldsState F s
  state_before to F G s became has = ap (option_and_then state_in) (sym (all_stay R 1 to F G became).state) ∙ has

  moved_keeps : (F G : Stored) (to : Id) → AreMoved R to F G → ShowTheSame R F G
  moved_keeps F G to moved = by_moves moved.between G moved.listed moved.moves
    where
      by_moves : (K H : Stored) → Dematerialises R 1 to F K → Moves to K H → ShowTheSame R F H
      by_moves K H became (Moves.unrooted none) = unmoved R 1 to F K became
      by_moves K H became (Moves.moved s rooted has good) =
          moved_on R F K s to became (state_before to F K s became has) good (sym (all_stay R 1 to F K became).root ∙ rooted)

  removed_keep : (F K H : Stored) → ShowTheSame R F K → RemovesUnread K H → ShowTheSame R F H
  removed_keep F K H same removed =
      let before : (t : State) → HoldsState H t → HoldsState K t = λ t has. ap (option_and_then state_in) (sym (state_kept K H removed)) ∙ has in
      record {
        shown = λ s t had has p. still_shown R K H removed t.root p ∙ same.shown s t had (before t has) p;
        sound = λ sound. still_sound K H removed (same.sound sound);
        numbers = λ s t had has sound. numbers_still K H removed t.root (same.numbers s t had (before t has) sound);
        next = λ s t had has. same.next s t had (before t has);
      }

  pub keeps_so : {T E : Type 0} (r : Result T E) (F G : Stored) (to : Id) → OnOk r (AreDematerialised R to F G) → OnErr r (AreSoFar R to F G) → ShowTheSame R F G
  keeps_so (Ok v) F G to done so_far = removed_keep F done.standing G (moved_keeps F done.standing to done.moved) done.removed
  keeps_so (Err e) F G to done so_far = by_far so_far
    where
      by_far : AreSoFar R to F G → ShowTheSame R F G
      by_far (AreSoFar.listed became) = unmoved R 1 to F G became
      by_far (AreSoFar.moved K moved removed) = removed_keep F K G (moved_keeps F K to moved) removed

  -- a root that isn't the mount's own names nothing
  nothing_named : (F : Stored) → root_file F ≡ None → (d : ℕ) (e : StoredEntry) → IsLive F d → Names F d e → ⊥
  nothing_named F none d e here n = entries_at_root F n.entries none n.held
  nothing_named F none d e (below c f r m leads) n = nothing_named F none c f r m

  nothing_left : (F : Stored) (to : Id) → root_file F ≡ None → NoneIsLeft R F 1 to
  nothing_left F to none k t (Leads.here x y) = λ e commit n is among. nothing_named F none 1 e here n
  nothing_left F to none k t (Leads.inside x y z w j e commit n leads is place rest) = absurd (nothing_named F none 1 e here n)

  pub unrooted_done : (to : Id) (F G : Stored) → G ≡ F → root_file F ≡ None → AreDematerialised R to F G
  unrooted_done to F G is none = record {
    standing = F;
    moved = record { between = F; listed = Dematerialises.begun; moves = Moves.unrooted none };
    removed = nothing_removed F G is;
    left = subst (λ (X : Stored). NoneIsLeft R X 1 to) (sym is) (nothing_left F to none);
    unread = subst HasNoneUnread (sym is) (λ k u. absurd (nothing_named F none u.0.directory u.0.entry u.0.live u.0.names));
  }

  pub moved_done : (to : Id) (s : State) (F G H K L : Stored) → G ≡ F → Dematerialises R 1 to G H → K ≡ H → HoldsState F s → is_some (root_file F) ≡ true
      → IsGoodState (moved_to to s) → L ≡ with_state K (moved_to to s) → AreMoved R to F L
  moved_done to s F G H K L before became after has rooted good is =
      let listed : Dematerialises R 1 to F K = subst (Dematerialises R 1 to F) (sym after) (subst (λ (X : Stored). Dematerialises R 1 to X H) before became) in
      let stays = all_stay R 1 to F K listed in
      record {
        between = K;
        listed = listed;
        moves = subst (Moves to K) (sym is) (Moves.moved s (stays.root ∙ rooted) (ap (option_and_then state_in) stays.state ∙ has) good);
      }

  pub moved_left : (to : Id) (s : State) (H K L : Stored) → K ≡ H → L ≡ with_state K (moved_to to s) → NoneIsLeft R H 1 to → NoneIsLeft R L 1 to
  moved_left to s H K L after is none =
      subst (λ (X : Stored). NoneIsLeft R X 1 to) (sym is) (none_moves R K (moved_to to s) 1 to (omega arith) (subst (λ (X : Stored). NoneIsLeft R X 1 to) (sym after) none))

  -- what nobody reads was removed from files that were moved
  pub removed_done : (to : Id) (F E K L G : Stored) → E ≡ F → AreMoved R to E K → NoneIsLeft R K 1 to → L ≡ K → RemovesUnread L G → HasNoneUnread G
      → AreDematerialised R to F G
  removed_done to F E K L G first moved left same removed unread =
      let removes : RemovesUnread K G = subst (λ (X : Stored). RemovesUnread X G) same removed in
      record {
        standing = K;
        moved = subst (λ (X : Stored). AreMoved R to X K) first moved;
        removed = removes;
        left = none_still K G removes R 1 to left;
        unread = unread;
      }

  pub removed_so_far : (to : Id) (F E K L G : Stored) → E ≡ F → AreMoved R to E K → L ≡ K → RemovesUnread L G → AreSoFar R to F G
  removed_so_far to F E K L G first moved same removed =
      AreSoFar.moved K (subst (λ (X : Stored). AreMoved R to X K) first moved) (subst (λ (X : Stored). RemovesUnread X G) same removed)

  pub listed_so_far : (to : Id) (F E G : Stored) → E ≡ F → Dematerialises R 1 to E G → AreSoFar R to F G
  listed_so_far to F E G first became = AreSoFar.listed (subst (λ (X : Stored). Dematerialises R 1 to X G) first became)

-- ---- answers

pub on_err : {T E X : Type 0} (r : Result T E) → X → OnErr r X
on_err (Ok v) x = tt
on_err (Err e) x = x

pub not_there : {X : Type 0} (b : Bool) (o : Option X) → b ≡ false → b ≡ is_some o → o ≡ None
not_there b None isnt is = refl
not_there b (Some x) isnt is = absurd (cc)
