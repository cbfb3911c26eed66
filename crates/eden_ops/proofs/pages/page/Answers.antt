use Rattle.std.proofs.Common.{◌≡◌, ℕ, ◌+◌, ◌-◌, min, take, drop, refl, ap, ◌∙◌, arith}
use Rattle.eden_ops.specs.Listings.{kinds_in}
use Rattle.eden_ops.proofs.Listed.{page_is}
use Rattle.eden_ops.proofs.pages.page.Goals as goal

pub returns : goal.returns
returns g c =
    let d = c.args.dir.now in
    let first = c.first_behind-first.result in
    let left = c.count.result - first in
    let many : first + c.min-count.result - first ≡ min left c.args.limit = omega (arith, c.min-count.ensures) in
    page_is c.args.after.now c.args.limit d first c.first_behind-first.ensures.greater left (ap (λ (n : ℕ). n - first) c.count.ensures.value) c.new.result
    (c.new.ensures ∙ c.in_ok-kinds.ensures ∙ ap (λ (n : ℕ). take n (drop first (kinds_in d))) many) _ refl
