use Rattle.std.proofs.Common.{◌≡◌, false}
use Rattle.std.specs.List.{AllWithin}
use Rattle.eden_model.specs.declared.fault.Cause.TheVariants as cause
use Rattle.eden_source.specs.Fetching.{IsSourceCause}
use Rattle.eden_git.proofs.store.framed_in.Given as goal

abbrev pub invariant-loop-index : goal.invariant-loop-index
invariant-loop-index g l = record {
  causes : IsSourceCause l.failed;
  damaged : l.failed ≡ cause.Missing → AllWithin (λ store. store.packs.is_damaged ≡ false) l.stores.items 0 l.index;
}
