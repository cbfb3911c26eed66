use Rattle.std.proofs.Common.{◌≡◌, ℕ, List, ◌+◌, ◌∙◌, length, sym, ap, arith}
use Rattle.std.proofs.lemmas.List.{length-append, length-drop, take_at}
use Rattle.eden_overlay_format.specs.declared.header.Identifier.TheVariants as identifier
use Rattle.eden_overlay_format.specs.Stored.{header, stored_as}
use Rattle.eden_overlay_format.proofs.CallerLemmas.{behind, written_found}
use Rattle.eden_overlay.proofs.memory.head_of_directory.Goals as goal

pub returns : goal.returns
returns c =
    let i = identifier.Directory in
    let body : List ℕ = c.args.body.now in
    let file = stored_as i body in
    let split = behind i file body (written_found i body) in
    let all : length file ≡ 64 + length body = omega (arith, split.0, length-drop 64 file, ap (length {A = ℕ}) split.1) in
    let long : length (header i body) ≡ 64 = omega (arith, all, length-append (header i body) body) in
    record { first = λ _. c.header_of.ensures ∙ sym (take_at (header i body) body 64 long); len = sym all }
