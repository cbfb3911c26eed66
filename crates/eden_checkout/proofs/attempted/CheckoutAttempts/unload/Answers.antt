use Rattle.std.proofs.Common.{refl, subst}
use Rattle.eden_model.specs.declared.request.Request.{Request}
use Rattle.eden_ops.specs.declared.place.Place.{Place}
use Rattle.eden_ops.specs.Trails.{MayGoOn}
use Rattle.eden_ops.proofs.CallerLemmas.{may_still}
use Rattle.eden_model.specs.Trees.{Path}
use Rattle.eden_mount.specs.Tables.{Unloads}
use Rattle.eden_checkout.specs.Attempted.{attempted}
use Rattle.eden_checkout.specs.Checkouts.{Checkout}
use Rattle.eden_ops.proofs.CallerLemmas.{lets_go, root_left}
use Rattle.eden_checkout.proofs.Closed.{comes_from}
use Rattle.eden_checkout.proofs.Tries.{unloads}
use Rattle.eden_checkout.proofs.attempted.CheckoutAttempts.unload.Goals as goal

pub invariant_of-self : goal.invariant_of-self
invariant_of-self g c =
    let x = c.self.inside in
    let e = c.unload.ensures in
    let goes = lets_go g.W.World.honest x.inodes.clock c.args.older_than (g.F.Files.stored x.inodes.files) x.inodes.root
    (g.F.Files.stored c.unload.new.self.files) c.unload.new.self.root e.unloads.0 e.unloads.1.1 in
    let origin = root_left c.as_slice.result.now x.inodes.root c.unload.new.self.root (goes c.as_slice.result.now e.elsewhere) in
    comes_from x.root x.inodes.root.origin c.unload.new.self.root.origin c.self.invariant origin

pub returns-clause-unloads : goal.returns-clause-unloads
returns-clause-unloads g c =
    let x = c.self.inside in
    let e = c.unload.ensures in
    let s : Checkout _ = record { inodes = x.inodes; cache = x.cache; root = x.root } in
    let t : Checkout _ = record { inodes = c.unload.new.self; cache = x.cache; root = x.root } in
    let here = unloads g.W.World g.F.Files s t c.as_slice.result.now c.args.older_than c.unload.result.count (record {
      count = e.unloads.0;
      counted = e.unloads.1.0;
      unloads = e.unloads.1.1;
      refused = c.unload.result.refused;
      settled = e.settled;
      elsewhere = e.elsewhere;
      failures = e.refused;
      rest = e.rest;
      cache = refl;
      root = refl;
    }) e.shown e.numbers in
    subst (λ (u : Checkout _). Unloads (attempted g.W.World g.F.Files) g.W.World.honest u c.args.path.now c.args.older_than c.unload.result.count t) c.self.view_is
    (subst (λ (p : Path). Unloads (attempted g.W.World g.F.Files) g.W.World.honest s p c.args.older_than c.unload.result.count t) c.as_slice.ensures here)

pub returns-clause-places : goal.returns-clause-places
returns-clause-places g c =
    let x = c.self.inside in
    let t = c.unload.new.self in
    let e = c.unload.ensures in
    let P : Checkout _ → Type 0 = λ u. (q : Request) (p : Place) → MayGoOn q u.inodes p → MayGoOn q t p in
    let kept = c.place_laws.ensures.unloads x.inodes t _ _ _ _ c.unload.result.count e.unloads.0 e.unloads.1.0 e.unloads.1.1 e.changes in
    subst P c.self.view_is (may_still x.inodes t kept)
