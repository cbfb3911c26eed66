use Rattle.std.proofs.Common.{Option, Ok, sym, subst}
use Rattle.eden_tree.specs.Directory.{Row}
use Rattle.eden_materialise.specs.Listings.{ChangesEntry}
use Rattle.eden_materialise.proofs.Chains.{told_fault}
use Rattle.eden_materialise.proofs.entry_change.EntryChangeChangeOverlay.change.Goals as goal

pub returns-in-Err : goal.returns-in-Err
returns-in-Err g c = record {
  ok = λ y d at h. tt;
  stored = λ honest y d at h. tt;
  err = c.in-Err.ensures.err;
  strays = c.in-Err.ensures.strays;
  fault = told_fault (g.F.Files.failures c.args.overlay.now) (g.F.Files.failures c.take_out.new.overlay) c.in-Err.fault c.told.result c.told.ensures c.in-Err.ensures.counted;
  counted = tt;
}

pub returns-in-Ok-put_in : goal.returns-in-Ok-put_in
returns-in-Ok-put_in g c =
    let old = c.args.overlay.now in
    let new = c.put_in.new.overlay in
    let P : Option Row → Type 0 = λ o. ChangesEntry g.W.World.honest c.args.self.path.now c.args.self.name.now o (g.F.Files.stored old) c.args.entry.now (g.F.Files.failures old)
    (g.F.Files.stored new) c.put_in.new.root (g.F.Files.failures new) (Ok tt) in
    subst P (sym c.in-Some.is) (record {
      ok = c.in-Ok-put_in.ensures.ok;
      stored = c.in-Ok-put_in.ensures.stored;
      err = tt;
      strays = λ honest. tt;
      fault = tt;
      counted = c.in-Ok-put_in.ensures.counted.same (λ failed. absurd (cc));
    })

pub returns-in-Err-put_in : goal.returns-in-Err-put_in
returns-in-Err-put_in g c = record {
  ok = λ y d at h. tt;
  stored = λ honest y d at h. tt;
  err = c.in-Err-put_in.ensures.err;
  strays = c.in-Err-put_in.ensures.strays;
  fault = told_fault (g.F.Files.failures c.args.overlay.now)
      (g.F.Files.failures c.put_in.new.overlay) c.in-Err-put_in.fault c.told-in-Err-put_in.result c.told-in-Err-put_in.ensures c.in-Err-put_in.ensures.counted;
  counted = tt;
}
