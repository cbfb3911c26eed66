use Rattle.std.proofs.Common.{ap, subst}
use Rattle.eden_model.specs.declared.request.Request.{Request}
use Rattle.eden_ops.specs.declared.place.Place.{Place}
use Rattle.eden_ops.specs.Trails.{MayGoOn}
use Rattle.eden_ops.proofs.CallerLemmas.{may_still, places_alike}
use Rattle.eden_inode.specs.Tables.{Table}
use Rattle.eden_mount.specs.Tables.{Ticks}
use Rattle.eden_checkout.specs.Attempted.{attempted}
use Rattle.eden_checkout.specs.Checkouts.{Checkout}
use Rattle.eden_checkout.proofs.Tries.{ticks}
use Rattle.eden_checkout.proofs.attempted.CheckoutAttempts.tick.Goals as goal

pub returns-clause-ticks : goal.returns-clause-ticks
returns-clause-ticks g c =
    let x = c.self.inside in
    let s : Checkout _ = record { inodes = x.inodes; cache = x.cache; root = x.root } in
    let t : Checkout _ = record { inodes = c.tick.new.self; cache = x.cache; root = x.root } in
    subst (λ (u : Checkout _). Ticks (attempted g.W.World g.F.Files) u t) c.self.view_is
    (ticks g.W.World g.F.Files s t (ap (λ (i : Table _). record { inodes = i; cache = x.cache; root = x.root }) c.tick.ensures))

pub returns-clause-places : goal.returns-clause-places
returns-clause-places g c =
    let x = c.self.inside in
    let t = c.tick.new.self in
    let P : Checkout _ → Type 0 = λ u. (q : Request) (p : Place) → MayGoOn q u.inodes p → MayGoOn q t p in
    let kept = places_alike x.inodes t (ap (λ (i : Table _). i.root) c.tick.ensures) (ap (λ (i : Table _). i.changes) c.tick.ensures) in
    subst P c.self.view_is (may_still x.inodes t kept)
