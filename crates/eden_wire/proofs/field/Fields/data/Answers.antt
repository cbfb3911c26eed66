use Rattle.std.proofs.Common.{[]}
use Rattle.eden_wire.specs.Fields.Field.{of_data}
use Rattle.eden_wire.proofs.FieldLemmas.{next_begins, next_field, last_part, data_there, takes, if_ok}
use Rattle.eden_wire.proofs.field.Fields.data.Goals as goal

pub behind-text-requires : goal.behind-text-requires
behind-text-requires c = next_begins _ _ ([], c.requires)

pub read_data-requires : goal.read_data-requires
read_data-requires c = data_there _ (next_field _ _ _ _ ([], c.requires) (last_part _ _ _ c.requires c.behind-text.ensures))

pub returns : goal.returns
returns c = if_ok c.read_data.result c.read_data.ensures (λ v h. takes (of_data v) _ _ _ (last_part _ _ _ c.requires c.behind-text.ensures) h.0 h.1)
