use Rattle.std.proofs.Common.{◌≡◌, length, sym, ap, ◌∙◌, rules}
use Rattle.eden_wire.proofs.RequestLemmas.{starts, alone}
use Rattle.eden_wire.proofs.request.first_path.Goals as goal

pub only_path-requires : goal.only_path-requires
only_path-requires c =
    let one : length c.shape.result.now ≡ 1 = search rules in
    alone c.args.word _ (sym (ap length c.shape.ensures) ∙ one) c.requires

pub path-requires : goal.path-requires
path-requires c = starts c.args.word _ c.requires
