use Rattle.std.proofs.Common.{ap, refl, subst}
use Rattle.eden_model.specs.declared.request.Request.{Request}
use Rattle.eden_ops.specs.declared.place.Place.{Place}
use Rattle.eden_ops.specs.Trails.{MayGoOn}
use Rattle.eden_ops.proofs.CallerLemmas.{may_still, places_alike}
use Rattle.eden_inode.specs.Tables.{Table}
use Rattle.eden_mount.specs.Tables.{Syncs}
use Rattle.eden_checkout.specs.Attempted.{attempted}
use Rattle.eden_checkout.specs.Checkouts.{Checkout}
use Rattle.eden_checkout.proofs.Tries.{syncs, unfailed}
use Rattle.eden_checkout.proofs.attempted.CheckoutAttempts.sync.Goals as goal

pub returns-clause-syncs : goal.returns-clause-syncs
returns-clause-syncs g c =
    let x = c.self.inside in
    let e = c.sync.ensures in
    let s : Checkout _ = record { inodes = x.inodes; cache = x.cache; root = x.root } in
    let t : Checkout _ = record { inodes = c.sync.new.self; cache = x.cache; root = x.root } in
    subst (λ (u : Checkout _). Syncs (attempted g.W.World g.F.Files) g.W.World.honest u c.is_ok.result t) c.self.view_is
    (syncs g.W.World g.F.Files s t c.is_ok.result (record {
      failures = λ went. unfailed c.sync.result c.is_ok.result _ _ c.is_ok.ensures.value e.counted went;
      files = e.files;
      inodes = e.rest;
      cache = refl;
      root = refl;
    }))

pub returns-clause-places : goal.returns-clause-places
returns-clause-places g c =
    let x = c.self.inside in
    let t = c.sync.new.self in
    let P : Checkout _ → Type 0 = λ u. (q : Request) (p : Place) → MayGoOn q u.inodes p → MayGoOn q t p in
    let kept = places_alike x.inodes t (ap (λ (i : Table _). i.root) c.sync.ensures.rest) (ap (λ (i : Table _). i.changes) c.sync.ensures.rest) in
    subst P c.self.view_is (may_still x.inodes t kept)
