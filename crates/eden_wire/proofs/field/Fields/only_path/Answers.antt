use Rattle.std.proofs.Common.{[]}
use Rattle.eden_wire.specs.Fields.Field.{of_path}
use Rattle.eden_wire.proofs.FieldLemmas.{next_begins, next_field, last_part, path_there, takes, if_ok}
use Rattle.eden_wire.proofs.field.Fields.only_path.Goals as goal

pub behind-text-requires : goal.behind-text-requires
behind-text-requires c = next_begins _ _ ([], c.requires)

pub read_path-requires : goal.read_path-requires
read_path-requires c = path_there _ (next_field _ _ _ _ ([], c.requires) (last_part _ _ _ c.requires c.behind-text.ensures))

pub returns : goal.returns
returns c = if_ok c.read_path.result c.read_path.ensures (λ v h. takes (of_path v) _ _ _ (last_part _ _ _ c.requires c.behind-text.ensures) h.0 h.1)
