use Rattle.std.proofs.Common.{rules}
use Rattle.eden_overlay_format.proofs.NumbersFound.{read_again}
use Rattle.eden_overlay_format.proofs.numbers.encode_numbers.Goals as goal

pub returns-clause-read_again : goal.returns-clause-read_again
returns-clause-read_again c =
    read_again c.args.tree c.args.entries.now (search rules) c.requires.storable c.requires.others _ c.into_numbers.result c.in_ok-of.field-0 c.in_ok-of.ensures c.into_numbers.ensures
