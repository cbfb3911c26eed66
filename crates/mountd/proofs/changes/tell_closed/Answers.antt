use Rattle.std.proofs.Common.{ℕ, Result, Ok, Err, ◌≡◌, ◌∙◌, IfErr, IfOk, OnErr, OnOk, subst}
use Rattle.eden_model.specs.declared.id.Id.{Id}
use Rattle.eden_overlay.specs.Files.{Stored}
use Rattle.eden_snapshot.specs.Changes.{TellsAll, TellsAllSoFar}
use Rattle.eden_snapshot.specs.Closing.{AreClosedOn}
use Rattle.eden_snapshot.specs.Exact.{TellsExactly, TellsTruly}
use Rattle.mountd.specs.declared.snapshot.TakeFault.{TakeFault}
use Rattle.mountd.specs.declared.snapshot.TakeFault.TheVariants as take
use Rattle.mountd.specs.Taking.{IsSnapshotFault, IsTakeFault}
use Rattle.mountd.proofs.changes.tell_closed.Goals as goal

came_later : (honest : Type 0) (root : Id) (F : Stored) (old new : ℕ) (f : TakeFault) → IsSnapshotFault f → (honest → AreClosedOn root F)
    → IsTakeFault honest root F old new f
came_later honest root F old new (take.Closed fault) h closed = absurd h
came_later honest root F old new (take.Snapshot fault) h closed = closed

module _ {T : Type 0} where
  they_are : (P : Type 0) (end : Result T TakeFault) → P → IfOk end (λ _. P)
  they_are P (Ok v) p = p
  they_are P (Err f) p = tt

  refused_by : (honest : Type 0) (root : Id) (F : Stored) (old new : ℕ) (end : Result T TakeFault) → IfErr end IsSnapshotFault
      → (honest → AreClosedOn root F) → IfErr end (IsTakeFault honest root F old new)
  refused_by honest root F old new (Ok v) h closed = tt
  refused_by honest root F old new (Err f) h closed = came_later honest root F old new f h closed

  -- what is told of the same files
  same_ok : {A : Type 0} (P : A → Type 0) (x y : A) (end : Result T TakeFault) → x ≡ y → OnOk end (P x) → OnOk end (P y)
  same_ok P x y (Ok v) is p = subst P is p
  same_ok P x y (Err f) is p = tt

  same_err : {A : Type 0} (P : A → Type 0) (x y : A) (end : Result T TakeFault) → x ≡ y → OnErr end (P x) → OnErr end (P y)
  same_err P x y (Ok v) is p = tt
  same_err P x y (Err f) is p = subst P is p

pub returns : goal.returns
returns g c =
    let R = g.W.World.repository in
    let root = c.args.root in
    let old = g.C.ChangeSink.told c.args.sink.now in
    let new = g.C.ChangeSink.told c.tell_shown.new.sink in
    let seen = c.in_ok-expect_closed.ensures in
    let end = c.tell_shown.result in
    let shown = c.tell_shown.ensures.1 in (
      record {
        closed = λ h. they_are _ end (seen.closed h);
        refused = refused_by g.W.World.honest root _ _ _ end c.tell_shown.ensures.0 (λ h. seen.closed h);
        unchanged = λ h. shown.unchanged h ∙ seen.unchanged h;
      },
      record {
        unchanged = λ h. shown.unchanged h ∙ seen.unchanged h;
        told = λ h. same_ok (λ F. TellsAll F R root old new) _ _ end (seen.unchanged h) (shown.told h);
        exact = λ h. same_ok (λ F. TellsExactly R root F old new) _ _ end (seen.unchanged h) (shown.exact h);
        told_so_far = λ h. same_err (λ F. TellsAllSoFar F R root old new) _ _ end (seen.unchanged h) (shown.told_so_far h);
        truly = λ h. same_err (λ F. TellsTruly R root F old new) _ _ end (seen.unchanged h) (shown.truly h);
      },
    )
