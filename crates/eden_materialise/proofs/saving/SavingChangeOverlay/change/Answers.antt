use Rattle.std.proofs.Common.{ℕ, inl, refl, sym, ap, subst}
use Rattle.eden_overlay.specs.Held.{with_entries}
use Rattle.eden_overlay.specs.Soundness.{AreSound}
use Rattle.eden_tree.specs.Directory.{Row}
use Rattle.eden_tree.proofs.CallerLemmas.{with_child-same}
use Rattle.eden_coupling.specs.Listings.{listing_of}
use Rattle.eden_materialise.proofs.Chains.{told_fault}
use Rattle.eden_materialise.proofs.Fronts.{idle_here}
use Rattle.eden_materialise.proofs.saving.SavingChangeOverlay.change.Goals as goal

pub returns-then-not-unsaved : goal.returns-then-not-unsaved
returns-then-not-unsaved g c =
    let holds = sym c.in-Some.ensures.value in
    record {
      ok = inl (idle_here g.W.World.honest (g.F.Files.stored c.args.overlay.now) c.args.entry.now c.in-Some.dir.now holds (sym c.if-not-unsaved.ensures));
      err = tt;
      unchanged = λ h. tt;
      fault = tt;
      counted = refl;
    }

pub save-requires-clause-entries : goal.save-requires-clause-entries
save-requires-clause-entries g c = (c.requires c.args.entry.now c.in-Some.dir.now refl (sym c.in-Some.ensures.value) (sym c.if-not-unsaved.ensures)).0

pub save-requires-clause-sound : goal.save-requires-clause-sound
save-requires-clause-sound g c h =
    let d = c.in-Some.dir.now in
    subst (λ (k : ℕ). AreSound (with_entries (g.F.Files.stored c.args.overlay.now) k (listing_of d))) (sym (ap (λ (r : Row). r.number) c.entry.view_is))
    ((c.requires c.args.entry.now d refl (sym c.in-Some.ensures.value) (sym c.if-not-unsaved.ensures)).1 h)

pub returns-in-Err : goal.returns-in-Err
returns-in-Err g c = record {
  ok = tt;
  err = with_child-same c.args.entry.now c.in-Some.dir.now (sym c.in-Some.ensures.value);
  unchanged = c.in-Err.ensures.err;
  fault = told_fault (g.F.Files.failures c.args.overlay.now) (g.F.Files.failures c.save.new.overlay) c.in-Err.fault c.told.result c.told.ensures c.in-Err.ensures.counted;
  counted = tt;
}
