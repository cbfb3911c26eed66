use Rattle.std.proofs.Common.{◌∙◌}
use Rattle.eden_stdio_life.proofs.opening.open.Goals as goal

pub returns-in-Ok-open_by-clause-opened : goal.returns-in-Ok-open_by-clause-opened
returns-in-Ok-open_by-clause-opened g c =
    let o = c.in-Ok-open_by.ensures in
    record { commit = o.fresh.commit; cache = o.fresh.cached ∙ c.in-Ok.ensures.cache; next = o.next; shown = o.shown; backed = o.backed }
