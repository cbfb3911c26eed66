use Rattle.std.proofs.Common.{rules, not}
use Rattle.std.proofs.lemmas.Fn.{filter_same}
use Rattle.eden_model.specs.Keys.{same_key}
use Rattle.eden_import.proofs.KeyLemmas.{same_key-equiv}
use Rattle.eden_import.proofs.keys.drop_key.Goals as goal

pub returns-clause-items : goal.returns-clause-items
returns-clause-items g c = filter_same _ (λ j. not (same_key c.args.key j)) _ (λ x b f h. search (rules, same_key-equiv.symm)) _ _ c.retain.ensures.filtered
