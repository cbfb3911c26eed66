use Rattle.std.proofs.Common.{ℕ, None, IfSome, sym, ap, subst}
use Rattle.eden_overlay.specs.Held.{with_entries}
use Rattle.eden_overlay.specs.Soundness.{AreSound}
use Rattle.eden_tree.specs.Directory.{Row}
use Rattle.eden_coupling.specs.Listings.{listing_of}
use Rattle.eden_coupling.specs.Changing.{changed}
use Rattle.eden_inode.specs.Listed.{RenamesAt}
use Rattle.eden_materialise.specs.Puts.{AtDirectory}
use Rattle.eden_materialise.proofs.renaming.store_without.Goals as goal

pub save-requires-clause-entries : goal.save-requires-clause-entries
save-requires-clause-entries g c = c.requires.entries c.in-Some.entry.now c.in-Some-directory.dir.now (sym c.in-Some.ensures) (sym c.in-Some-directory.ensures)

pub save-requires-clause-sound : goal.save-requires-clause-sound
save-requires-clause-sound g c h =
    let P : ℕ → Type 0 = λ k. AreSound (with_entries (g.F.Files.stored c.args.overlay.now) k (listing_of (changed c.in-Some-directory.dir.now c.args.name.now None))) in
    subst P (ap (λ (r : Row). r.number) (sym c.entry.view_is)) (c.requires.sound h c.in-Some.entry.now c.in-Some-directory.dir.now (sym c.in-Some.ensures) (sym c.in-Some-directory.ensures))

pub save_renamed-requires-clause-entries : goal.save_renamed-requires-clause-entries
save_renamed-requires-clause-entries g c = c.requires.entries c.in-Some.entry.now c.in-Some-directory.dir.now (sym c.in-Some.ensures) (sym c.in-Some-directory.ensures)

pub save_renamed-requires-clause-renames : goal.save_renamed-requires-clause-renames
save_renamed-requires-clause-renames g c h =
    let F = g.F.Files.stored c.args.overlay.now in
    let y = c.in-Some.entry.now in
    let d = c.in-Some-directory.dir.now in
    let n = c.args.name.now in
    let m = c.in-Some-differing.new_name.now in
    let told = subst (λ o. IfSome o (λ t. AtDirectory c.args.path.now c.args.root.now (λ z e. RenamesAt n t.now F z.number (listing_of (changed e n None)))))
    c.in-Some-differing.is (c.requires.renames h) in
    subst (λ k. RenamesAt n m F k (listing_of (changed d n None))) (ap (λ (r : Row). r.number) (sym c.entry.view_is)) (told y d (sym c.in-Some.ensures) (sym c.in-Some-directory.ensures))

pub save_renamed-requires-clause-sound : goal.save_renamed-requires-clause-sound
save_renamed-requires-clause-sound g c h =
    let P : ℕ → Type 0 = λ k. AreSound (with_entries (g.F.Files.stored c.args.overlay.now) k (listing_of (changed c.in-Some-directory.dir.now c.args.name.now None))) in
    subst P (ap (λ (r : Row). r.number) (sym c.entry.view_is)) (c.requires.sound h c.in-Some.entry.now c.in-Some-directory.dir.now (sym c.in-Some.ensures) (sym c.in-Some-directory.ensures))
