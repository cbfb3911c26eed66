use Rattle.std.proofs.Common.{ℕ, Option, None, refl, subst}
use Rattle.eden_materialise.specs.EntryMoves.{Clears}
use Rattle.eden_materialise.proofs.Chains.{told_fault}
use Rattle.eden_materialise.proofs.Listings.{held_loaded}
use Rattle.eden_materialise.proofs.Removals.{clear_removed}
use Rattle.eden_materialise.proofs.removal.RemovalChangeOverlay.change.Goals as goal

pub spot_at-spot-requires : goal.spot_at-spot-requires
spot_at-spot-requires g c =
    held_loaded g.W.World.honest g.W.World.repository (g.F.Files.stored c.args.overlay.now) c.args.entry.now c.args.self.path.now c.args.self.name.now None c.requires

pub remove_replaced-requires : goal.remove_replaced-requires
remove_replaced-requires g c h =
    let m = c.requires.may in
    clear_removed g.W.World.honest g.W.World.repository (g.F.Files.stored c.args.overlay.now) c.args.entry.now c.args.self.path.now c.args.self.name.now c.requires
    (g.F.Files.stored c.take_out.new.overlay) h (c.in-Ok.ensures.stored h m.row m.directory m.at m.holds)
    c.spot_at-spot.result.own (c.spot_at-spot.ensures.own m.row m.directory m.at m.holds)

pub returns-in-Ok : goal.returns-in-Ok
returns-in-Ok g c =
    let between = c.take_out.new.overlay in
    let then = c.remove_replaced.new.overlay in
    record {
      between = g.F.Files.stored between;
      count = g.F.Files.failures between;
      changes = record {
        ok = λ y d at h. c.in-Ok.ensures.ok y d at h;
        stored = λ honest y d at h. c.in-Ok.ensures.stored honest y d at h;
        err = tt;
        strays = λ honest. tt;
        fault = tt;
        counted = c.in-Ok.ensures.counted.same (λ failed. absurd (cc));
      };
      clears = λ y d at h.
          (let P : Option ℕ → Type 0 = λ o. Clears g.W.World.honest (g.F.Files.stored between) (g.F.Files.failures between) (g.F.Files.stored then) (g.F.Files.failures then) o in
          subst P (c.spot_at-spot.ensures.own y d at h) c.remove_replaced.ensures);
      refused = tt;
    }

pub returns-in-Err : goal.returns-in-Err
returns-in-Err g c =
    let then = c.take_out.new.overlay in
    record {
      between = g.F.Files.stored then;
      count = g.F.Files.failures then;
      changes = record {
        ok = λ y d at h. tt;
        stored = λ honest y d at h. tt;
        err = c.in-Err.ensures.err;
        strays = c.in-Err.ensures.strays;
        fault = told_fault (g.F.Files.failures c.args.overlay.now) (g.F.Files.failures then) c.in-Err.fault c.told.result c.told.ensures c.in-Err.ensures.counted;
        counted = tt;
      };
      clears = λ y d at h. tt;
      refused = ((λ honest. refl), refl);
    }
