use Rattle.std.proofs.Common.{◌≡◌, ◌∙◌, ◌++◌, true, ◌∷◌, [], ℕ, Some, None, IfSome, sym, subst, nat_cmp}
use Rattle.std.specs.BTreeSet.{contains}
use Rattle.eden_repair.specs.Repairing.{HasNumber, Sorts, ways_below}
use Rattle.eden_repair.specs.Surveying.{AreLed, Goes, IsMetThen}
use Rattle.eden_repair.specs.Covering.{AreBelow, AreNew}
use Rattle.eden_repair.proofs.Covered.{new_still, one_new}
use Rattle.eden_repair.proofs.Steps.{one_goes, one_stays}
use Rattle.eden_repair.proofs.survey.sort_one.Goals as goal

pub returns-in-Some-clause-sorts : goal.returns-in-Some-clause-sorts
returns-in-Some-clause-sorts g c = λ honest stayed entries met sorts.
    let F = g.F.Files.stored c.args.files.now in
    let at = c.args.path.now in
    let e = c.args.entry in
    let kept = c.args.sorted.listing in
    let was = contains nat_cmp c.args.met.now in
    let is = contains nat_cmp c.damage_of.new.met in
    let goes : Goes F was e c.in-Some.damage = subst (λ o. IfSome o (Goes F was e)) c.in-Some.is (c.in_ok-damage.ensures.goes honest) in
    let then : IsMetThen e.number (Some c.in-Some.damage) was is = subst (λ o. IsMetThen e.number o was is) c.in-Some.is c.in_ok-damage.ensures.met in
    record {
      sorts = subst (λ l. Sorts F at stayed (entries ++ e ∷ []) kept l) (sym c.in_ok-push.ensures.items)
          (one_goes F at stayed entries kept c.args.sorted.cut.items e c.in-Some.damage c.in_ok-finding.field-0 was sorts met goes c.in_ok-finding.ensures.tells);
      met = λ k has. met k (sym (then k) ∙ has);
    }

pub returns-clause-sorts : goal.returns-clause-sorts
returns-clause-sorts g c = λ honest stayed entries met sorts.
    let F = g.F.Files.stored c.args.files.now in
    let at = c.args.path.now in
    let e = c.args.entry in
    let kept = c.args.sorted.listing in
    let cut = c.args.sorted.cut.items in
    let was = contains nat_cmp c.args.met.now in
    let is = contains nat_cmp c.damage_of.new.met in
    let then : IsMetThen e.number None was is = subst (λ o. IsMetThen e.number o was is) c.in_default.is c.in_ok-damage.ensures.met in
    record {
      sorts = subst (λ l. Sorts F at stayed (entries ++ e ∷ []) l cut) (sym c.in_ok-listing.ensures)
          (Sorts.stays entries kept cut e sorts (c.in_ok-damage.ensures.stays honest c.in_default.is));
      met = subst (λ l. (k : ℕ) → is k ≡ true → HasNumber (stayed ++ l) k) (sym c.in_ok-listing.ensures) (one_stays stayed kept e was is met then);
    }

pub returns-in-Some-clause-new : goal.returns-in-Some-clause-new
returns-in-Some-clause-new g c = λ first new.
    let was = contains nat_cmp c.args.met.now in
    let is = contains nat_cmp c.damage_of.new.met in
    let then : IsMetThen c.args.entry.number (Some c.in-Some.damage) was is = subst (λ o. IsMetThen c.args.entry.number o was is) c.in-Some.is c.in_ok-damage.ensures.met in
    new_still c.args.sorted.listing first was is new (λ k has. then k ∙ has)

pub returns-clause-new : goal.returns-clause-new
returns-clause-new g c = λ first new.
    let e = c.args.entry in
    let was = contains nat_cmp c.args.met.now in
    let is = contains nat_cmp c.damage_of.new.met in
    let then : IsMetThen e.number None was is = subst (λ o. IsMetThen e.number o was is) c.in_default.is c.in_ok-damage.ensures.met in
    subst (λ l. AreNew l first is) (sym c.in_ok-listing.ensures) (one_new c.args.sorted.listing e first was is new then)

pub returns-clause-below : goal.returns-clause-below
returns-clause-below g c = λ lower.
    let e = c.args.entry in
    subst (λ l. AreBelow l c.in_ok-below.below.items) (sym c.in_ok-listing.ensures) (c.in_ok-below.ensures.below c.args.sorted.listing lower)

pub returns-clause-led : goal.returns-clause-led
returns-clause-led g c = λ led.
    subst (λ l. AreLed (ways_below c.args.path.now l) c.in_ok-below.below.items) (sym c.in_ok-listing.ensures) (c.in_ok-below.ensures.led c.args.sorted.listing led)
