-- One history behind another.
use Rattle.std.proofs.Common.{[], ◌∷◌, refl}
use Rattle.eden_model.specs.Operations.{after}
use Rattle.eden_model.specs.Numbers.{after_numbers}
use Rattle.eden_model.specs.Histories.{ReplayAppends, NumbersAppend, LegalAppends}

pub replay-append : ReplayAppends
replay-append F [] fs = refl
replay-append F (e ∷ es) fs = replay-append (after F e.request e.reply) es fs

pub replay_numbers-append : NumbersAppend
replay_numbers-append N [] fs = refl
replay_numbers-append N (e ∷ es) fs = replay_numbers-append (after_numbers N e.request e.reply) es fs

pub Legal-append : LegalAppends
Legal-append F N [] fs = (λ l. (tt, l), λ l. l.1)
Legal-append F N (e ∷ es) fs =
    let rest = Legal-append (after F e.request e.reply) (after_numbers N e.request e.reply) es fs in
    (λ l. let parts = rest.0 l.2 in ((l.0, l.1, parts.0), parts.1), λ l. (l.0.0, l.0.1, rest.1 (l.0.2, l.1)))
