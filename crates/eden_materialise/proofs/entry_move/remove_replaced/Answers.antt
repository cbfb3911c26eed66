use Rattle.std.proofs.Common.{◌≡◌, ℕ, Option, Result, Err, refl, sym, ap, subst}
use Rattle.eden_overlay.specs.declared.files.FilesFault.{FilesFault}
use Rattle.eden_overlay.specs.declared.files.FilesFault.TheVariants as files
use Rattle.eden_materialise.specs.EntryMoves.{Clears, nothing, removed, failed}
use Rattle.eden_materialise.proofs.entry_move.remove_replaced.Goals as goal

pub returns-in-None : goal.returns-in-None
returns-in-None g c =
    let F = g.F.Files.stored c.args.overlay.now in
    let old = g.F.Files.failures c.args.overlay.now in
    let P : Option ℕ → Type 0 = λ o. Clears g.W.World.honest F old F old o in
    subst P (sym c.in-None.is) (nothing (λ h. refl) refl)

pub returns-in-Ok : goal.returns-in-Ok
returns-in-Ok g c =
    let then = c.remove.new.self in
    let P : Option ℕ → Type 0 = λ o. Clears g.W.World.honest (g.F.Files.stored c.args.overlay.now) (g.F.Files.failures c.args.overlay.now) (g.F.Files.stored then) (g.F.Files.failures then) o in
    subst P (sym c.in-Some.is) (removed c.in-Some.number c.in-Ok.ensures.ok (c.in-Ok.ensures.counted.same (λ e. cc)))

pub returns-in-Err : goal.returns-in-Err
returns-in-Err g c =
    let then = c.remove.new.self in
    let P : Option ℕ → Type 0 = λ o. Clears g.W.World.honest (g.F.Files.stored c.args.overlay.now) (g.F.Files.failures c.args.overlay.now) (g.F.Files.stored then) (g.F.Files.failures then) o in
    let fault : ◌≡◌ {A = Result (Unit {0}) FilesFault} (Err c.in-Err.field-0) (Err files.Device) = ap (λ f. Err f) c.in-Err.ensures.fault in
    subst P (sym c.in-Some.is) (failed c.in-Some.number c.in-Err.ensures.err (c.in-Err.ensures.counted.rose fault))
