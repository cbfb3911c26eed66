use Rattle.std.proofs.Common.{arith, rules, ◌≡◌, ◌∙◌, ◌<◌, ◌^◌, sym, inl, inr, ◌⊎◌, ℕ, decimal}
use Rattle.std.proofs.lemmas.Fmt.{decimal_injective}
use Rattle.clap.specs.Words.{Text}
use Rattle.mountd_options.specs.Numbers.{IsWithin}
use Rattle.mountd_options.proofs.numbers.read_within.Goals as goal
use Rattle.mountd_options.proofs.numbers.read_within.Goals.{then-number-least-via-then-number-least, then-number-least-via-else-number-least+then-number-most}

-- a number outside the bounds spells none within
outside : (least most : ℕ) (text : Text) (m : ℕ) → m < 2 ^ 64 → most < 2 ^ 64 → text ≡ decimal m → (m < least) ⊎ (most < m)
    → (n : ℕ) → IsWithin least most text n → ⊥
outside least most text m fits most_fits is out n taken =
    let small : n < 2 ^ 64 = omega (arith, most_fits, taken.2) in
    let same : m ≡ n = decimal_injective m n fits small (sym is ∙ taken.0) in
    elim out [ inl under ↦ omega (arith, taken.1) | inr over ↦ omega (arith, taken.2) ]

pub returns-then-number-least : goal.returns-then-number-least
returns-then-number-least c =
    let is : c.args.text.now ≡ decimal c.in_ok-number.number = search rules in
    let fits : c.in_ok-number.number < 2 ^ 64 = search rules in
    let most_fits : c.args.most < 2 ^ 64 = search rules in
    outside c.args.least c.args.most c.args.text.now c.in_ok-number.number fits most_fits is (elim c.then-number-least.branch [
      | then-number-least-via-then-number-least w ↦ inl (omega arith)
      | then-number-least-via-else-number-least+then-number-most w ↦ inr (omega arith)
    ])
