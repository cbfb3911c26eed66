use Rattle.std.proofs.Common.{Result, Ok, Err, ◌≡◌, IsErr, IsErrAnd, IfErr, OnErr, OnOk, subst, sym}
use Rattle.std.proofs.lemmas.Bool.{false≢true}
use Rattle.eden_snapshot.specs.declared.fault.SnapshotFault.{SnapshotFault}
use Rattle.mountd.specs.declared.snapshot.TakeFault.{TakeFault}
use Rattle.mountd.specs.declared.snapshot.TakeFault.TheVariants as take
use Rattle.mountd.specs.Taking.{IsSnapshotFault}
use Rattle.mountd.proofs.changes.tell_shown.Goals as goal

-- ---- an end that is an error

module _ {T : Type 0} where
  no_telling : (P : Type 0) (end : Result T TakeFault) → IsErr end → OnOk end P
  no_telling P (Ok v) h = absurd (false≢true h)
  no_telling P (Err f) h = tt

  telling : (P : Type 0) (end : Result T TakeFault) → P → OnErr end P
  telling P (Ok v) p = tt
  telling P (Err f) p = p

  came_later : (end : Result T TakeFault) (fault : SnapshotFault) → IsErrAnd end (λ f. f ≡ take.Snapshot fault) → IfErr end IsSnapshotFault
  came_later (Ok v) fault h = tt
  came_later (Err f) fault h = subst IsSnapshotFault (sym h) tt

pub returns-in_err-changes : goal.returns-in_err-changes
returns-in_err-changes g c =
    let changed = c.in_err-changes.ensures in
    let end = c.from_residual.result in
    let fails = c.from_residual.ensures in (
      came_later end c.in_err-changes.field-0.0 fails.1,
      record {
        unchanged = changed.unchanged;
        told = λ h. no_telling _ end fails.0;
        exact = λ h. no_telling _ end fails.0;
        told_so_far = λ h. telling _ end (changed.told_so_far h);
        truly = λ h. telling _ end (changed.truly h);
      },
    )

pub returns : goal.returns
returns g c =
    let changed = c.in_ok-changes.ensures in (
      tt,
      record {
        unchanged = changed.unchanged;
        told = changed.told;
        exact = changed.exact;
        told_so_far = λ h. tt;
        truly = λ h. tt;
      },
    )
