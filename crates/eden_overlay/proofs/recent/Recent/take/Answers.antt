use Rattle.std.proofs.Common.{◌∙◌, not, position, sym, ap}
use Rattle.std.specs.Option.{option_map}
use Rattle.eden_overlay.specs.Keeping.{is_of, of_others}
use Rattle.eden_overlay.proofs.Kept.{all_stay, found_at, found_passes, nothing_found, others_same}
use Rattle.eden_overlay.proofs.recent.Recent.take.Goals as goal

pub returns-in_err-at-clause-found : goal.returns-in_err-at-clause-found
returns-in_err-at-clause-found c =
    let of = is_of c.args.number in
    let nowhere = ap (position of) (sym c.deref.ensures.value) ∙ sym c.in_err-at.ensures in
    c.from_residual.ensures ∙ sym (ap (option_map (λ k. k.content)) (nothing_found of c.args.self.now.kept.items nowhere))

pub returns-in_err-at-clause-others : goal.returns-in_err-at-clause-others
returns-in_err-at-clause-others c =
    let of = is_of c.args.number in
    let kept = c.args.self.now.kept.items in
    let nowhere = ap (position of) (sym c.deref.ensures.value) ∙ sym c.in_err-at.ensures in
    sym (all_stay of kept (nothing_found of kept nowhere))

pub returns-clause-found : goal.returns-clause-found
returns-clause-found c =
    let of = is_of c.args.number in
    let place = ap (position of) (sym c.deref.ensures.value) ∙ sym c.in_ok-at.ensures in
    let found = found_at of c.args.self.now.kept.items c.in_ok-at.at c.remove-kept.result place c.remove-kept.ensures.value in
    sym (ap (option_map (λ k. k.content)) found.1)

pub returns-clause-others : goal.returns-clause-others
returns-clause-others c =
    let of = is_of c.args.number in
    let kept = c.args.self.now.kept.items in
    let place = ap (position of) (sym c.deref.ensures.value) ∙ sym c.in_ok-at.ensures in
    let found = found_at of kept c.in_ok-at.at c.remove-kept.result place c.remove-kept.ensures.value in
    c.drop_of.ensures ∙ ap (of_others c.args.number) c.remove-kept.ensures.items
    ∙ others_same (λ k. not (of k)) kept c.in_ok-at.at c.remove-kept.result found.0 (ap not (found_passes of kept c.remove-kept.result found.1))
