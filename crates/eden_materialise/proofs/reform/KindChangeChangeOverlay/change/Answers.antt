use Rattle.std.proofs.Common.{Some, sym, ap, ◌∙◌, subst}
use Rattle.eden_overlay.specs.Held.{with_entries}
use Rattle.eden_tree.specs.Directory.{Row}
use Rattle.eden_coupling.specs.Chains.{chained, Above}
use Rattle.eden_coupling.specs.Changing.{changed}
use Rattle.eden_coupling.specs.Listings.{listing_of}
use Rattle.eden_materialise.specs.Listings.{IsHeldFor}
use Rattle.eden_materialise.proofs.Chains.{told_fault}
use Rattle.eden_materialise.proofs.reform.KindChangeChangeOverlay.change.Goals as goal

pub put_in-requires : goal.put_in-requires
put_in-requires g c = record {
  held =
      subst (λ (r : Row). IsHeldFor g.W.World.honest g.W.World.repository (g.F.Files.stored c.args.overlay.now) c.args.entry.now c.args.self.path.now c.args.self.name.now (Some r))
      (sym (c.with_kind-new.ensures c.requires.entry c.requires.has)) c.requires.held;
}

pub returns-in-Ok : goal.returns-in-Ok
returns-in-Ok g c w has =
    let x = c.args.entry.now in
    let p = c.args.self.path.now in
    let n = c.args.self.name.now in
    let F = g.F.Files.stored c.args.overlay.now in
    let G = g.F.Files.stored c.put_in.new.overlay in
    let is = c.with_kind-new.ensures w has in
    record {
      ok = λ y d at h. c.in-Ok.ensures.ok y d at h ∙ ap (λ (r : Row). chained p (changed d n (Some r)) x) is;
      stored = λ honest y d at h. subst (λ (r : Row). Above (with_entries F y.number (listing_of (changed d n (Some r)))) x p G) is (c.in-Ok.ensures.stored honest y d at h);
      err = tt;
      strays = λ honest. tt;
      fault = tt;
      counted = c.in-Ok.ensures.counted.same (λ failed. absurd (cc));
    }

pub returns-in-Err : goal.returns-in-Err
returns-in-Err g c w has = record {
  ok = λ y d at h. tt;
  stored = λ honest y d at h. tt;
  err = c.in-Err.ensures.err;
  strays = c.in-Err.ensures.strays;
  fault = told_fault (g.F.Files.failures c.args.overlay.now) (g.F.Files.failures c.put_in.new.overlay) c.in-Err.fault c.told.result c.told.ensures c.in-Err.ensures.counted;
  counted = tt;
}
