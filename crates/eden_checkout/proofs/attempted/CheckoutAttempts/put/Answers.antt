use Rattle.std.proofs.Common.{OnOk, refl, subst}
use Rattle.eden_model.specs.declared.request.Request.{Request}
use Rattle.eden_ops.specs.declared.place.Place.{Place}
use Rattle.eden_ops.specs.Trails.{MayGoOn}
use Rattle.eden_mount.specs.Tables.{Stores}
use Rattle.eden_checkout.specs.Attempted.{attempted}
use Rattle.eden_checkout.specs.Checkouts.{Checkout}
use Rattle.eden_checkout.proofs.Tries.{stores_by}
use Rattle.eden_checkout.proofs.attempted.CheckoutAttempts.put.Goals as goal

pub returns-clause-ok : goal.returns-clause-ok
returns-clause-ok g c =
    let e = c.put.ensures in
    let x = c.self.inside in
    let s : Checkout _ = record { inodes = x.inodes; cache = x.cache; root = x.root } in
    let t : Checkout _ = record { inodes = x.inodes; cache = c.put.new.self; root = x.root } in
    subst (λ (u : Checkout _). OnOk c.put.result (Stores (attempted g.W.World g.F.Files) u c.args.key c.args.object t)) c.self.view_is
    (stores_by g.W.World g.F.Files c.need_laws.ensures.falls s t c.args.key c.args.object c.put.result refl refl e.objects e.size e.found)

pub returns-clause-places : goal.returns-clause-places
returns-clause-places g c =
    let t = c.self.inside.inodes in
    let P : Checkout _ → Type 0 = λ u. (q : Request) (p : Place) → MayGoOn q u.inodes p → MayGoOn q t p in
    subst P c.self.view_is (λ q p may. may)
