use Rattle.std.proofs.Common.{rules}
use Rattle.std.proofs.lemmas.List.Sorted.{answers_always}
use Rattle.eden_overlay_format.proofs.Rising.{comes_before, rising_answer}
use Rattle.eden_overlay_format.proofs.directory.is_rising.Goals as goal

pub returns : goal.returns
returns c = rising_answer c.args.entries.now c.is_sorted_by.result (c.is_sorted_by.ensures.cases comes_before (answers_always _ _ _ (λ f a r f' h. search rules)))
