use Rattle.std.proofs.Common.{ℕ, List, ◌++◌, ◌∙◌, ap, replicate}
use Rattle.eden_overlay_format.specs.declared.header.Identifier.TheVariants as identifier
use Rattle.eden_overlay_format.specs.Stored.{body_in}
use Rattle.eden_overlay_format.proofs.Headers.{written_found, sealed}
use Rattle.eden_overlay_format.proofs.content.encode_file.Goals as goal

pub returns-clause-bytes : goal.returns-clause-bytes
returns-clause-bytes c =
    sealed identifier.File c.in_ok-out.out.items c.args.content.now c.seal.new.file.items (c.in_ok-out.ensures.bytes ∙ ap (λ (l : List ℕ). replicate 64 0 ++ l) c.whole.ensures) c.seal.ensures

pub returns-clause-read_again : goal.returns-clause-read_again
returns-clause-read_again c =
    record { stored = ap (body_in identifier.File) (returns-clause-bytes c) ∙ written_found identifier.File c.args.content.now; most = c.requires }
