use Rattle.std.proofs.Common.{◌≡◌, Ok}
use Rattle.std.proofs.lemmas.Fmt.{parse-decimal}
use Rattle.std.proofs.lemmas.Slice.Eq.{bytes_eq-Decides}
use Rattle.eden_overlay.proofs.names.number_named.Goals as goal

pub returns-in-Ok-clause-found : goal.returns-in-Ok-clause-found
returns-in-Ok-clause-found c = λ n small e.
    let parsed : c.parse.result ≡ Ok n = parse-decimal 64 n c.args.name.now c.parse.result small small e c.parse.ensures.value.0 in
    cc

pub returns-in_default-clause-found : goal.returns-in_default-clause-found
returns-in_default-clause-found c = λ n small e.
    let parsed : c.parse.result ≡ Ok n = parse-decimal 64 n c.args.name.now c.parse.result small small e c.parse.ensures.value.0 in
    let same : c.format.result.now ≡ c.args.name.now = cc in
    absurd (cc ((bytes_eq-Decides c.format.result.now c.args.name.now).1 same))

pub returns-in_default-2-clause-found : goal.returns-in_default-2-clause-found
returns-in_default-2-clause-found c = λ n small e.
    let parsed : c.parse.result ≡ Ok n = parse-decimal 64 n c.args.name.now c.parse.result small small e c.parse.ensures.value.0 in
    cc
