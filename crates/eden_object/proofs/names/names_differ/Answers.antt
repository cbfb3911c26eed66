use Rattle.eden_object.proofs.SortLemmas.{names_distinct}
use Rattle.eden_object.proofs.names.names_differ.Goals as goal

pub returns-in-Ok : goal.returns-in-Ok
returns-in-Ok c = λ es h.
    let same = names_distinct (λ n. n.now) es c.in-Ok.names.items (c.in-Ok.ensures es h) in
    ((λ t. same.1 (c.differ_sorted.ensures.0 t)), (λ p. c.differ_sorted.ensures.1 (same.0 p)))
