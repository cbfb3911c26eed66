use Rattle.std.proofs.Common.{◌≡◌, ◌∙◌, ap, subst, IfOk, [], ◌∷◌, codes}
use Rattle.clap.specs.Words.{Shape, shape_of}
use Rattle.mountd_options.specs.Grammar.{flag, optional, with_options}
use Rattle.mountd_options.specs.Numbers.{number_name}
use Rattle.mountd_options.specs.declared.numbers.NumberOption.TheVariants.{History, CacheEntries, CacheBytes}
use Rattle.mountd_options.proofs.grammar.with_kept_options.Goals as goal

pub returns-clause-shape : goal.returns-clause-shape
returns-clause-shape c =
    let overlay = optional (codes "overlay") in
    let history = optional (number_name History) in
    let entries = optional (number_name CacheEntries) in
    let bytes = optional (number_name CacheBytes) in
    let rescan = flag (codes "rescan") in
    let two : shape_of c.in_ok-line-2.line ≡ with_options (shape_of c.args.line) (overlay ∷ rescan ∷ []) =
    c.in_ok-line-2.ensures.shape ∙ ap (λ s. with_options s (rescan ∷ [])) c.in_ok-line.ensures.shape in
    let three : shape_of c.in_ok-line-3.line ≡ with_options (shape_of c.args.line) (overlay ∷ rescan ∷ history ∷ []) =
    c.in_ok-line-3.ensures.shape ∙ ap (λ s. with_options s (history ∷ [])) two in
    let four : shape_of c.in_ok-line-4.line ≡ with_options (shape_of c.args.line) (overlay ∷ rescan ∷ history ∷ entries ∷ []) =
    c.in_ok-line-4.ensures.shape ∙ ap (λ s. with_options s (entries ∷ [])) three in
    let P : Shape → Type 0 = λ s. IfOk c.with_optional-4.result (λ more. shape_of more ≡ with_options s (bytes ∷ [])) in
    subst P four c.with_optional-4.ensures.shape
