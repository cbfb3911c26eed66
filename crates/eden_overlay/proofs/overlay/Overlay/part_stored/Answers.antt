use Rattle.std.proofs.Common.{◌≡◌, ◌∙◌, ◌<◌, ◌+◌, ℕ, List, Option, Vec, Result, IfOk, sym, ap, subst}
use Rattle.std.specs.Option.{option_map}
use Rattle.std.specs.declared.alloc.Global.{Global}
use Rattle.eden_overlay.specs.Files.{part}
use Rattle.eden_overlay.specs.declared.fault.GetFault.{GetFault}
use Rattle.eden_overlay.specs.Held.{HoldsPart}
use Rattle.eden_overlay.proofs.Parts.{part_there, part_behind}
use Rattle.eden_overlay.proofs.overlay.Overlay.part_stored.Goals as goal
use Rattle.eden_overlay.proofs.overlay.Overlay.part_stored.Goals.{in-Some-2, in-None}

pub returns-in_default-clause-found : goal.returns-in_default-clause-found
returns-in_default-clause-found g c = λ honest.
    let F = g.F.Files.stored c.args.self.now in
    let far : c.args.from + 64 < 18446744073709551616 → ⊥ = c.in_default.ensures in
    subst (HoldsPart F c.args.number c.args.from c.args.most) (sym c.new.ensures.items) (part_behind F c.args.number c.args.from c.args.most (c.requires honest) far)

pub returns-clause-found : goal.returns-clause-found
returns-clause-found g c = λ honest.
    let F = g.F.Files.stored c.args.self.now in
    let Holds : Vec ℕ Global → Type 0 = λ v. HoldsPart F c.args.number c.args.from c.args.most v.items in
    elim c.match-branch-2.branch [
      | in-Some-2 w ↦
          (let items : Option (Vec ℕ Global) → Option (List ℕ) = λ o. option_map (λ v. v.items) o in
          let found = subst (λ f. items c.in_ok-bytes.field-0 ≡ option_map (part c.in-Some.from c.args.most) (g.F.Files.stored f c.args.number)) c.self.view_is (c.in_ok-bytes.ensures.found honest) in
          let behind = ap (λ at. option_map (part at c.args.most) (F c.args.number)) c.in-Some.ensures.1 in
          subst (λ (r : Result (Vec ℕ Global) GetFault). IfOk r Holds) (sym w.result-is)
          (part_there F c.args.number c.args.from c.args.most w.in-Some-2.bytes.items (c.requires honest) (sym behind ∙ sym found ∙ ap items w.in-Some-2.is)))
      | in-None w ↦ subst (λ (r : Result (Vec ℕ Global) GetFault). IfOk r Holds) (sym w.result-is) tt
    ]
