-- An `fsync` that is told no error.
use Rattle.std.proofs.Common.{◌≡◌, ℕ, Bool, true, false, List, [], ◌∷◌, Option, Some, None, Result, Ok, Err, inl, inr, refl, sym, ap, ◌∙◌}
use Rattle.std.proofs.lemmas.Bool.{false≢true}
use Rattle.eden_model.specs.declared.errno.Errno.{Errno}
use Rattle.eden_model.specs.declared.errno.Errno.TheVariants as errno
use Rattle.eden_model.specs.declared.obstacle.Obstacle.{Obstacle}
use Rattle.eden_model.specs.declared.obstacle.Obstacle.TheVariants as obstacle
use Rattle.eden_model.specs.declared.reply.Reply.{Reply}
use Rattle.eden_model.specs.declared.reply.Reply.TheVariants as say
use Rattle.eden_model.specs.ChangeLaws.{DataIsWritten, OldBytesStay, WrittenLength}
use Rattle.eden_model.specs.Faults.{errno_number, obstacle_number}
use Rattle.eden_model.specs.Trees.{Path, Tree}
use Rattle.eden_fuse_nodes.specs.declared.way.Whereabouts.{Whereabouts}
use Rattle.eden_fuse_nodes.specs.declared.way.Whereabouts.TheVariants.{At, TooFar, Nowhere}
use Rattle.eden_fuse_nodes.specs.Laws.{OneNode, OnePath}
use Rattle.eden_fuse_nodes.specs.Tables.{IsNodeTable}
use Rattle.eden_fuse_nodes.specs.Ways.{LiesAt, path_in}
use Rattle.eden_fuse_meaning.specs.declared.step.Outcome.{Outcome}
use Rattle.eden_fuse_meaning.specs.declared.step.Outcome.TheVariants as outcome
use Rattle.eden_fuse_meaning.specs.declared.step.Step.TheVariants.{Tell}
use Rattle.eden_fuse_meaning.specs.declared.step.Then.TheVariants as awaited
use Rattle.eden_fuse_meaning.specs.Steps.{next}
use Rattle.eden_fuse_session.specs.Turns.{Told}
use Rattle.eden_fuse_shown.specs.declared.mount.Unheard.{Unheard}
use Rattle.eden_fuse_shown.specs.declared.mount.Unheard.TheVariants as unheard
use Rattle.eden_fuse_shown.specs.Running.{Replying, Syncing, Leads}
use Rattle.eden_fuse_shown.specs.Showing.{Showing, Settles, SettlesWith, Syncs, Unless, failed, refuse, storing, synced, unstored}
use Rattle.eden_fuse_shown.specs.Waiting.{Extent, extent_of}
use Rattle.eden_fuse_shown.specs.Seeing.{Follows, IsSyncedAsSeen, seen}
use Rattle.eden_fuse_shown.proofs.SeenLaws.{is_there_once_stored}

-- ---- an error has a number

abbrev is_errno : Option ℕ → Bool
is_errno None = true
is_errno (Some n) = failed (refuse n)

abbrev can_tell : Result Path ℕ → Bool
can_tell (Ok p) = true
can_tell (Err n) = failed (refuse n)

of_where : (w : Whereabouts) → can_tell (path_in w) ≡ true
of_where (At p) = refl
of_where TooFar = refl
of_where Nowhere = refl

of_error : (x : Errno) → is_errno (Some (errno_number x)) ≡ true
of_error errno.ENOENT = refl
of_error errno.EBUSY = refl
of_error errno.EEXIST = refl
of_error errno.ENOTDIR = refl
of_error errno.EISDIR = refl
of_error errno.EINVAL = refl
of_error errno.EFBIG = refl
of_error errno.ENAMETOOLONG = refl
of_error errno.ENOTEMPTY = refl
of_error errno.EPROTO = refl

of_obstacle : (o : Obstacle) → is_errno (Some (obstacle_number o)) ≡ true
of_obstacle obstacle.NoSpace = refl
of_obstacle obstacle.OverQuota = refl
of_obstacle obstacle.TooLarge = refl
of_obstacle obstacle.ReadOnly = refl

of_unheard : (u : Unheard) → is_errno (unstored (Err u)) ≡ true
of_unheard (unheard.Fault f) = refl
of_unheard (unheard.Blocked o) = of_obstacle o
of_unheard unheard.Memory = refl

of_outcome : (r end : Result Outcome Unheard) → end ≡ r → is_errno (unstored r) ≡ true → is_errno (unstored end) ≡ true
of_outcome r end is so = ap (λ (x : Result Outcome Unheard). is_errno (unstored x)) is ∙ so

module _ {S : Type 0} (answers : Replying S) where
  ended : (o : Outcome) (replies : List Reply) (s t : S) (end : Result Outcome Unheard) → Leads answers (Tell o) replies s end t → end ≡ Ok o
  ended o [] s t end h = h.1
  ended o (x ∷ xs) s t end h = absurd h

  of_outcome_told : (o : Outcome) (replies : List Reply) (s t : S) (end : Result Outcome Unheard) → Leads answers (Tell o) replies s end t
      → is_errno (unstored (Ok o)) ≡ true → is_errno (unstored end) ≡ true
  of_outcome_told o replies s t end h so = of_outcome (Ok o) end (ended o replies s t end h) so

  of_reply : (r : Reply) (replies : List Reply) (s t : S) (end : Result Outcome Unheard) → Leads answers (next awaited.Count r) replies s end t
      → is_errno (unstored end) ≡ true
  of_reply (say.Count n) replies s t end h = of_outcome_told (outcome.Written n) replies s t end h refl
  of_reply (say.Err x) replies s t end h = of_outcome_told (outcome.Refused (errno_number x)) replies s t end h (of_error x)
  of_reply say.Ok replies s t end h = of_outcome_told (outcome.Refused 5) replies s t end h refl
  of_reply (say.Kind k) replies s t end h = of_outcome_told (outcome.Refused 5) replies s t end h refl
  of_reply (say.Stat k size n) replies s t end h = of_outcome_told (outcome.Refused 5) replies s t end h refl
  of_reply (say.Data d) replies s t end h = of_outcome_told (outcome.Refused 5) replies s t end h refl
  of_reply (say.Entries es more) replies s t end h = of_outcome_told (outcome.Refused 5) replies s t end h refl
  of_reply (say.Fault f) replies s t end h = of_outcome_told (outcome.Refused 5) replies s t end h refl

  of_store : (at : Result Path ℕ) (e : Extent) (replies : List Reply) (s t : S) (end : Result Outcome Unheard) → can_tell at ≡ true
      → Leads answers (storing at e) replies s end t → is_errno (unstored end) ≡ true
  of_store (Err n) e replies s t end so h = of_outcome_told (outcome.Refused n) replies s t end h so
  of_store (Ok p) e [] s t end so (why, heard, is) = of_outcome (Err why) end is (of_unheard why)
  of_store (Ok p) e (r ∷ rs) s t end so (u, heard, rest) = elim rest [
    | inl leads ↦ of_reply r rs u t end leads
    | inr stop ↦ of_outcome (Err unheard.Memory) end stop.2 refl
  ]

  -- why something isn't stored is told by a number
  of_settling : (w : Option Extent) (node : ℕ) (old new : Showing S) (why : Option ℕ) → SettlesWith answers w node old why new → is_errno why ≡ true
  of_settling None node old new why r = ap (λ (x : Option ℕ). is_errno x) r.0
  of_settling (Some e) node old new why r = elim r.stored [
    | inl none ↦ ap (λ (x : Option ℕ). is_errno x) none.0
    | inr asked ↦
        ap (λ (x : Option ℕ). is_errno x) asked.4
        ∙ of_store asked.0 e asked.3.0 old.mount new.mount asked.1 (ap can_tell asked.2.2 ∙ of_where asked.2.0) asked.3.1
  ]

-- ---- nothing waits, and then the disk was waited for

told_none : (n : ℕ) (t : Told) → is_errno (Some n) ≡ true → t ≡ refuse n → failed t ≡ true
told_none n t so is = ap (λ (x : Told). failed x) is ∙ so

module _ {S : Type 0} (answers : Replying S) (syncs : Syncing S) (tree : S → Tree) (one : OneNode) (lone : OnePath) (put : DataIsWritten) (stay : OldBytesStay)
    (long : WrittenLength) where
  abbrev Lasts : Showing S → Path → Showing S → Type 0
  Lasts old p new = (mid : S) × (tree mid p ≡ seen answers tree old p) × syncs mid true new.mount

  went_on : (went : Bool) (old mid new : Showing S) (t : Told) (p : Path) → tree mid.mount p ≡ seen answers tree old p → syncs mid.mount went new.mount
      → t ≡ synced went → failed t ≡ false → Lasts old p new
  went_on true old mid new t p there asked told fine = (mid.mount, there, asked)
  went_on false old mid new t p there asked told fine = absurd (false≢true (sym fine ∙ told_none 5 t refl told))

  module _ (follows : Follows answers tree) where
    on : (why : Option ℕ) (node : ℕ) (old mid new : Showing S) (t : Told) (p : Path) → IsNodeTable old.nodes → Settles answers node old why mid
        → Unless answers why (Syncs syncs) mid t new → failed t ≡ false → LiesAt old.nodes node p → Lasts old p new
    on None node old mid new t p whole settles r fine lies =
        went_on r.went old mid new t p (is_there_once_stored answers tree one lone put stay long follows node old mid p whole settles lies) r.asked r.told fine
    on (Some n) node old mid new t p whole settles r fine lies =
        absurd (false≢true (sym fine ∙ told_none n t (of_settling answers (extent_of old.waits node) node old mid (Some n) settles) r.1))

  pub is_synced_as_seen : IsSyncedAsSeen answers tree syncs
  is_synced_as_seen follows h s old new t p whole shows fine lies = elim shows [
    | inl starved ↦ absurd (false≢true (sym fine ∙ told_none 12 t refl starved.1))
    | inr (why, mid, settles, rest) ↦ on follows why h.nodeid old mid new t p whole settles rest fine lies
  ]
