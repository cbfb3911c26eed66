use Rattle.std.proofs.Common.{◌≡◌, ℕ, Result, Ok, Err, OnOk, length, inl, inr, sym, ap, ◌∙◌}
use Rattle.eden_model.specs.declared.id.Id.{Id}
use Rattle.eden_model.specs.declared.kind.Origin.TheVariants as origin
use Rattle.eden_overlay.specs.Files.{Stored}
use Rattle.eden_overlay.specs.Held.{saved_at, with_entries, with_numbers}
use Rattle.eden_tree.specs.Directory.{Row, Directory}
use Rattle.eden_coupling.specs.Listings.{listing_of}
use Rattle.eden_coupling.specs.NumberUnloads.{IsPutAway, own_stored, numbers_saved, numbers_before}
use Rattle.eden_inode.specs.Saved.{HasSaved}
use Rattle.eden_inode.proofs.unload.put_away.Goals as goal

on_ok : {T E : Type 0} (r : Result T E) (X Y : Type 0) → (X → Y) → OnOk r X → OnOk r Y
on_ok (Ok x) X Y f h = f h
on_ok (Err e) X Y f h = h

-- where its numbers are saved it is put away
saved_away : (F G : Stored) (k : ℕ) (tree : Id) (d : Directory) (y : Row) → y.number ≡ k → y.origin ≡ origin.Object tree → length tree.bytes ≡ 20
    → HasSaved F k tree (listing_of d) G → IsPutAway F y d G
saved_away F G k tree d y number is bytes (inl had) = numbers_before tree is (ap (λ (c : ℕ). saved_at F c tree) number ∙ had.0) had.1
saved_away F G k tree d y number is bytes (inr now) = numbers_saved tree is bytes (now ∙ ap (λ (c : ℕ). with_numbers F c tree (listing_of d)) (sym number))

pub save-requires-clause-sound : goal.save-requires-clause-sound
save-requires-clause-sound g c h =
    let s = c.requires.sound in
    let F = g.F.Files.stored c.args.overlay.now in
    let es = listing_of c.args.dir.now in
    s.1.1.1 h (with_entries F c.args.number es)
    (own_stored (s.1.1.0 ∙ c.in-Own.is) (sym c.if-not-unsaved.ensures) (ap (λ (k : ℕ). with_entries F k es) (sym s.1.0)))

pub save_numbers-requires-clause-sound : goal.save_numbers-requires-clause-sound
save_numbers-requires-clause-sound g c h =
    let s = c.requires.sound in
    let F = g.F.Files.stored c.args.overlay.now in
    let es = listing_of c.args.dir.now in
    let tree = c.in-Object.tree in
    s.1.1.1 h (with_numbers F c.args.number tree es)
    (numbers_saved tree (s.1.1.0 ∙ c.in-Object.is) c.holds.ensures (ap (λ (k : ℕ). with_numbers F k tree es) (sym s.1.0)))

pub returns-in-Object-clause-ok : goal.returns-in-Object-clause-ok
returns-in-Object-clause-ok g c h y number is =
    let F = g.F.Files.stored c.args.overlay.now in
    let G = g.F.Files.stored c.save_numbers.new.overlay in
    let tree = c.in-Object.tree in
    on_ok c.save_numbers.result (HasSaved F c.args.number tree (listing_of c.args.dir.now) G) (IsPutAway F y c.args.dir.now G)
    (saved_away F G c.args.number tree c.args.dir.now y number (is ∙ c.in-Object.is) c.holds.ensures) (c.save_numbers.ensures.ok h)
