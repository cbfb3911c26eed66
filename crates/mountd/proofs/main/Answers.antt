use Rattle.std.specs.Prelude.{string_bytes}
use Rattle.std.proofs.Common.{map, ◌≡◌, ◌≤◌, ◌∙◌, ℕ, List, Option, Some, None, Result, Ok, IfOk, ap, subst, inl, inr, arith}
use Rattle.mountd_options.specs.declared.command.Command.{Command}
use Rattle.mountd_options.specs.declared.command.Command.TheVariants as command
use Rattle.mountd_options.specs.declared.command.OptionsError.{OptionsError}
use Rattle.mountd_options.specs.declared.command.ServeOptions.{ServeOptions}
use Rattle.mountd_options.specs.declared.numbers.NumberOption.TheVariants.{Fetchers}
use Rattle.mountd_options.specs.CommandLine.{AsksFor}
use Rattle.mountd_options.specs.Numbers.{SaysNumber}
use Rattle.mountd.proofs.main.Goals as goal

-- a number of fetchers that is said, or isn't, is none that leaves nobody to fetch
at_least_one : (said : Option (List ℕ)) (n : ℕ) → SaysNumber Fetchers 2 said n → 1 ≤ n
at_least_one None n two = omega arith
at_least_one (Some text) n (inl number) = number.1
at_least_one (Some text) n (inr none) = let two = none.1 in omega arith

serves_by_one : (words : List (List ℕ)) (r : Result Command OptionsError) (asked : Command) (options : ServeOptions) → r ≡ Ok asked → asked ≡ command.Serve options
    → IfOk r (AsksFor words) → 1 ≤ options.fetchers
serves_by_one words r asked options ok serve asks =
    let served : AsksFor words (command.Serve options) = subst (λ x. IfOk x (AsksFor words)) (ok ∙ ap (λ x. Ok x) serve) asks in
    at_least_one _ options.fetchers served.1.fetchers

pub serve-requires-clause-fetchers : goal.serve-requires-clause-fetchers
serve-requires-clause-fetchers g c κs =
    serves_by_one (map string_bytes c.as_slice.result.now) c.options.result c.in-Ok-Serve.field-0 c.in-Ok-Serve.options c.in-Ok-Serve.is c.in-Ok-Serve.field-0-is c.options.ensures.ok
