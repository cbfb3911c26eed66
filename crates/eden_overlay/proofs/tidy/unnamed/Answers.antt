use Rattle.std.proofs.Common.{rules, ◌&&◌, leb, not, nat_cmp}
use Rattle.std.specs.BTreeSet.{contains}
use Rattle.std.proofs.lemmas.Fn.{filter_same}
use Rattle.eden_model.specs.Limits.{number_least}
use Rattle.eden_overlay.proofs.tidy.unnamed.Goals as goal

pub returns : goal.returns
returns c = filter_same _ (λ k. leb number_least k && not (contains nat_cmp c.args.named.now k)) _ (λ x b f h. search rules) _ _ c.retain.ensures.filtered
