use Rattle.std.proofs.Common.{◌≡◌, ◌∙◌, ℕ, List, Option, Some, Vec, sym, ap, subst}
use Rattle.std.specs.Option.{option_map}
use Rattle.std.specs.declared.alloc.Global.{Global}
use Rattle.eden_overlay_format.specs.declared.header.Identifier.TheVariants as identifier
use Rattle.eden_overlay_format.specs.Values.{numbers_in, FailsWith}
use Rattle.eden_overlay.specs.Getting.{ExplainsNumbers}
use Rattle.eden_overlay.proofs.Counting.{numbers_explained}
use Rattle.eden_overlay.proofs.overlay.Overlay.get_numbers.Goals as goal

pub returns-clause-refused : goal.returns-clause-refused
returns-clause-refused g c = λ honest.
    let F = g.F.Files.stored c.args.self.now in
    let items : Option (Vec ℕ Global) → Option (List ℕ) = λ o. option_map (λ v. v.items) o in
    let found = subst (λ f. items c.in_ok-file.field-0 ≡ g.F.Files.stored f c.args.number) c.self.view_is (c.in_ok-file.ensures.found honest) in
    let stored : F c.args.number ≡ Some c.in-Some.file.items = sym found ∙ ap items c.in-Some.is in
    let fails = subst (λ b. FailsWith identifier.Numbers numbers_in b c.in-Err.fault) c.deref.ensures.value c.in-Err.ensures.refused in
    subst (ExplainsNumbers c.args.tree (F c.args.number)) (sym c.no_numbers.ensures)
    (numbers_explained c.args.tree (F c.args.number) c.in-Some.file.items c.in-Err.fault stored fails)
