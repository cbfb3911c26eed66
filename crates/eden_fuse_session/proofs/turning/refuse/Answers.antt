use Rattle.std.proofs.Common.{ℕ, List, length, ap, arith, refl}
use Rattle.eden_fuse_session.proofs.Rooms.{refusal_len}
use Rattle.eden_fuse_session.proofs.turning.refuse.Goals as goal

pub returns-in-Err-clause-refuses : goal.returns-in-Err-clause-refuses
returns-in-Err-clause-refuses g c =
    (refl, refl, omega (arith, c.in-Err.ensures.full, ap (λ (x : List ℕ). length x) c.requires, refusal_len c.args.unique))
