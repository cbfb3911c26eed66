use Rattle.eden_wire.specs.Fields.Field.{of_after}
use Rattle.eden_wire.proofs.FieldLemmas.{next_begins, next_field, after_there, takes, if_ok}
use Rattle.eden_wire.proofs.field.Fields.after.Goals as goal

pub next_part-requires : goal.next_part-requires
next_part-requires c = next_begins _ _ c.requires

pub read_after-requires : goal.read_after-requires
read_after-requires c = after_there _ (next_field _ _ _ _ c.requires c.next_part.ensures)

pub returns : goal.returns
returns c = if_ok c.read_after.result c.read_after.ensures (λ v h. takes (of_after v) _ _ _ c.next_part.ensures h.0 h.1)
