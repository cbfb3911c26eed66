use Rattle.std.proofs.Common.{◌≡◌, ◌∙◌, ◌++◌, ◌∷◌, [], Result, Ok, Err, OnOk, refl, sym, ap, subst, nat_cmp}
use Rattle.std.specs.BTreeSet.{contains}
use Rattle.eden_overlay.specs.Counting.{root_from}
use Rattle.eden_overlay.specs.Files.{Stored}
use Rattle.eden_overlay.specs.Held.{root_file}
use Rattle.eden_repair.specs.Repairing.{IsRepaired}
use Rattle.eden_repair.specs.Covering.{IsCovered, IsWhole, none_seen}
use Rattle.eden_repair.proofs.Whole.{begins_with, whole}
use Rattle.eden_repair.proofs.Steps.{untouched, mended_alone, repairs, top_leads}
use Rattle.eden_repair.proofs.repairing.walk.Goals as goal

on_ok : {X Y : Type 0} (r : Result X Y) (P Q : Type 0) → (P → Q) → OnOk r P → OnOk r Q
on_ok (Ok x) P Q so is = so is
on_ok (Err y) P Q so is = tt

pub returns-in_err-top-clause-repaired : goal.returns-in_err-top-clause-repaired
returns-in_err-top-clause-repaired g c = λ honest.
    untouched (g.F.Files.stored c.args.files.now) (g.F.Files.stored c.top.new.files) c.args.root c.args.found.now.items c.requires (c.in_err-top.ensures.unchanged honest)

pub returns-in_err-push-clause-repaired : goal.returns-in_err-push-clause-repaired
returns-in_err-push-clause-repaired g c = λ honest.
    untouched (g.F.Files.stored c.args.files.now) (g.F.Files.stored c.top.new.files) c.args.root c.args.found.now.items c.requires (c.top.ensures.unchanged honest)

pub returns-in_err-saved-clause-repaired : goal.returns-in_err-saved-clause-repaired
returns-in_err-saved-clause-repaired g c = λ honest.
    let x = c.in_ok-top.field-0 in
    let P : Stored → Type 0 = λ X. IsRepaired X c.args.root c.walk_own.new.found.items (g.F.Files.stored c.walk_own.new.files) in
    subst P (c.top.ensures.unchanged honest)
    (mended_alone (g.F.Files.stored c.top.new.files) (g.F.Files.stored c.walk_own.new.files) c.args.root c.walk_own.new.found.items []
    (c.in_err-saved.ensures.mended honest _ (top_leads (g.F.Files.stored c.args.files.now) (g.F.Files.stored c.top.new.files) c.args.root x c.push.new.self.items (c.top.ensures.unchanged honest)
    (c.in_ok-push.ensures.items ∙ ap (λ l. l ++ x ∷ []) c.new-pending.ensures.items) c.in_ok-top.ensures.number (c.in_ok-top.ensures.from honest) c.in_ok-top.ensures.path)))

pub returns-clause-repaired : goal.returns-clause-repaired
returns-clause-repaired g c = λ honest.
    let x = c.in_ok-top.field-0 in
    let P : Stored → Type 0 = λ X. IsRepaired X c.args.root c.walk_saved.new.found.items (g.F.Files.stored c.walk_saved.new.files) in
    let m = c.in_ok-saved.ensures.led honest _
    (top_leads (g.F.Files.stored c.args.files.now) (g.F.Files.stored c.top.new.files) c.args.root x c.push.new.self.items (c.top.ensures.unchanged honest)
    (c.in_ok-push.ensures.items ∙ ap (λ l. l ++ x ∷ []) c.new-pending.ensures.items) c.in_ok-top.ensures.number (c.in_ok-top.ensures.from honest) c.in_ok-top.ensures.path) in
    subst P (c.top.ensures.unchanged honest)
    (repairs (g.F.Files.stored c.top.new.files) (g.F.Files.stored c.walk_own.new.files) (g.F.Files.stored c.walk_saved.new.files) c.args.root c.walk_own.new.found.items
    c.walk_saved.new.found.items c.in_ok-saved.saved.items m.mended (c.walk_saved.ensures.forgets honest m.mended.ways m.mended.stayed m.mended.led m.met))

pub returns-clause-whole : goal.returns-clause-whole
returns-clause-whole g c = λ honest.
    let F = g.F.Files.stored c.top.new.files in
    let G = g.F.Files.stored c.walk_own.new.files in
    let H = g.F.Files.stored c.walk_saved.new.files in
    let root = c.args.root in
    let x = c.in_ok-top.field-0 in
    let met = contains nat_cmp c.new-met.result in
    let left = c.push.new.self.items in
    let one : left ≡ x ∷ [] = c.in_ok-push.ensures.items ∙ ap (λ l. l ++ x ∷ []) c.new-pending.ensures.items in
    let first : IsCovered F root left met none_seen = begins_with F root x left met none_seen one c.in_ok-top.ensures.number
    (subst (λ (X : Stored). x.origin ≡ root_from root (root_file X)) (sym (c.top.ensures.unchanged honest)) (c.in_ok-top.ensures.from honest)) (λ d. refl) in
    let then = c.in_ok-saved.ensures.covered honest root first in
    on_ok c.walk_saved.result _ (IsWhole H root) (λ on. whole H root _ none_seen (on root then)) (c.walk_saved.ensures.covered honest)
