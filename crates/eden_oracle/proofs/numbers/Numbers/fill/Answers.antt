use Rattle.std.proofs.Common.{subst, sym, ℕ}
use Rattle.eden_model.specs.Numbers.{Allows}
use Rattle.eden_model.specs.Trees.{Path}
use Rattle.eden_oracle.specs.Numbers.{numbers_of}
use Rattle.eden_oracle.proofs.Told.{none_left}
use Rattle.eden_oracle.proofs.numbers.Numbers.fill.Goals as goal

pub returns-in-None-pick : goal.returns-in-None-pick
returns-in-None-pick c = none_left (numbers_of c.args.self.now) c.args.request.now c.args.reply (record { path = c.in-Some.path.now; number = c.in-Some.field-0-1 })
    (sym c.in-Some.ensures) (subst (λ (p : Path). (n : ℕ) → ¬ Allows (numbers_of c.args.self.now) p n) c.as_slice.ensures c.in-None-pick.ensures)
