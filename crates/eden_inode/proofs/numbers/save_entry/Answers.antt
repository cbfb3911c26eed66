use Rattle.std.proofs.Common.{◌≡◌, ℕ, sym, ap, ◌∙◌, subst}
use Rattle.std.proofs.lemmas.Result.{on_ok_weaker}
use Rattle.eden_model.specs.declared.kind.Origin.TheVariants as origin
use Rattle.eden_overlay.specs.Held.{with_numbers}
use Rattle.eden_overlay.specs.Soundness.{AreSound}
use Rattle.eden_tree.specs.Directory.{Row}
use Rattle.eden_coupling.specs.Listings.{listing_of}
use Rattle.eden_inode.proofs.Saves.{saved_of, alone_of, saved_unless_loaded}
use Rattle.eden_inode.proofs.numbers.save_entry.Goals as goal

pub save_numbers-requires-clause-entries : goal.save_numbers-requires-clause-entries
save_numbers-requires-clause-entries g c = c.requires.entries c.in-Some.dir.now (sym c.in-Some.ensures)

pub save_numbers-requires-clause-sound : goal.save_numbers-requires-clause-sound
save_numbers-requires-clause-sound g c h =
    let y = c.args.entry.now in
    let F = g.F.Files.stored c.args.overlay.now in
    let tree = c.in-Object.tree in
    let number : c.entry.inside.number ≡ y.number = ap (λ (r : Row). r.number) c.entry.view_is in
    let object : y.origin ≡ origin.Object tree = ap (λ (r : Row). r.origin) (sym c.entry.view_is) ∙ c.in-Object.is in
    subst (λ (k : ℕ). AreSound (with_numbers F k tree (listing_of c.in-Some.dir.now))) (sym number) (c.requires.sound h c.in-Some.dir.now tree (sym c.in-Some.ensures) object)

pub returns-in-None-clause-saved : goal.returns-in-None-clause-saved
returns-in-None-clause-saved g c h = saved_unless_loaded c.args.entry.now (g.F.Files.stored c.args.overlay.now) (sym c.in-None.ensures)

pub returns-in-Some-clause-saved : goal.returns-in-Some-clause-saved
returns-in-Some-clause-saved g c h =
    let y = c.args.entry.now in
    let F = g.F.Files.stored c.args.overlay.now in
    let G = g.F.Files.stored c.save_numbers.new.overlay in
    let tree = c.in-Object.tree in
    let number : c.entry.inside.number ≡ y.number = ap (λ (r : Row). r.number) c.entry.view_is in
    let object : y.origin ≡ origin.Object tree = ap (λ (r : Row). r.origin) (sym c.entry.view_is) ∙ c.in-Object.is in
    on_ok_weaker c.save_numbers.result (saved_of y G F c.in-Some.dir.now tree c.entry.inside.number number (sym c.in-Some.ensures) object) (c.save_numbers.ensures.saved h)

pub returns-in-Some-clause-alone : goal.returns-in-Some-clause-alone
returns-in-Some-clause-alone g c h =
    let y = c.args.entry.now in
    let F = g.F.Files.stored c.args.overlay.now in
    let G = g.F.Files.stored c.save_numbers.new.overlay in
    let tree = c.in-Object.tree in
    let number : c.entry.inside.number ≡ y.number = ap (λ (r : Row). r.number) c.entry.view_is in
    let object : y.origin ≡ origin.Object tree = ap (λ (r : Row). r.origin) (sym c.entry.view_is) ∙ c.in-Object.is in
    alone_of y G F c.in-Some.dir.now tree c.entry.inside.number number (sym c.in-Some.ensures) object c.save_numbers.result (c.save_numbers.ensures.ok h) (c.save_numbers.ensures.err h)
