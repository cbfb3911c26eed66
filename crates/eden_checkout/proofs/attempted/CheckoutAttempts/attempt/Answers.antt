use Rattle.std.proofs.Common.{IfSome, refl, sym, subst}
use Rattle.eden_model.specs.declared.request.Request.{Request}
use Rattle.eden_ops.specs.declared.place.Place.{Place}
use Rattle.eden_ops.specs.Trails.{MayGoOn}
use Rattle.eden_ops.proofs.CallerLemmas.{may_still}
use Rattle.eden_mount.specs.Tables.{Tries}
use Rattle.eden_checkout.specs.Attempted.{attempted}
use Rattle.eden_checkout.specs.Checkouts.{Checkout}
use Rattle.eden_checkout.proofs.Closed.{comes_from}
use Rattle.eden_checkout.proofs.Tries.{tries}
use Rattle.eden_checkout.proofs.attempted.CheckoutAttempts.attempt.Goals as goal

pub invariant_of-self : goal.invariant_of-self
invariant_of-self g c =
    let x = c.self.inside in
    comes_from x.root x.inodes.root.origin c.attempt_at.new.inodes.root.origin c.self.invariant c.attempt_at.ensures.leaves.on.root

pub returns-clause-tries : goal.returns-clause-tries
returns-clause-tries g c =
    let x = c.self.inside in
    let e = c.attempt_at.ensures in
    let s : Checkout _ = record { inodes = x.inodes; cache = x.cache; root = x.root } in
    let t : Checkout _ = record { inodes = c.attempt_at.new.inodes; cache = c.attempt_at.new.cache; root = x.root } in
    let k = c.keeps_laws.ensures in
    let n = c.need_laws.ensures in
    subst (λ (u : Checkout _). Tries (attempted g.W.World g.F.Files) g.W.World.honest u c.args.request.now c.attempt_at.result t) c.self.view_is
    (tries g.W.World g.F.Files k.shown k.entries n.some n.stay s t c.args.request.now c.attempt_at.result (record
    { attempts = e.attempts; leaves = e.leaves; looks = e.looks; refused = e.refused; root = refl })
    e.renumbers)

pub attempt_at-requires : goal.attempt_at-requires
attempt_at-requires g c =
    let P : Checkout _ → Type 0 = λ u. IfSome c.args.place.now (MayGoOn c.args.request.now u.inodes) in
    subst P (sym c.self.view_is) c.requires

pub returns-clause-places : goal.returns-clause-places
returns-clause-places g c =
    let t = c.attempt_at.new.inodes in
    let P : Checkout _ → Type 0 = λ u. (q : Request) (p : Place) → MayGoOn q u.inodes p → MayGoOn q t p in
    subst P c.self.view_is (may_still c.self.inside.inodes t c.attempt_at.ensures.leaves.on.places)
