use Rattle.std.proofs.Common.{rules, ◌≡◌, ◌++◌, ◌∙◌, ap, replicate, arith}
use Rattle.std.proofs.lemmas.Grind.{common_steps}
use Rattle.eden_overlay_format.specs.declared.header.Identifier.TheVariants as identifier
use Rattle.eden_overlay_format.specs.Stored.{body_in}
use Rattle.eden_overlay_format.specs.State.{state_body}
use Rattle.eden_overlay_format.proofs.Headers.{written_found, sealed}
use Rattle.eden_overlay_format.proofs.state.encode_state.Goals as goal

pub returns-clause-bytes : goal.returns-clause-bytes
returns-clause-bytes c =
    let body : c.extend_from_slice.new.self.items ≡ replicate 64 0 ++ state_body c.args.state = grind (arith, common_steps) in
    sealed identifier.File c.extend_from_slice.new.self.items (state_body c.args.state) c.seal.new.file.items body c.seal.ensures

pub returns-clause-read_again : goal.returns-clause-read_again
returns-clause-read_again c =
    let all = returns-clause-bytes c in
    record {
      stored = ap (body_in identifier.File) all ∙ written_found identifier.File (state_body c.args.state);
      good = record { root = search rules; least = c.requires.least; most = c.requires.most };
    }
