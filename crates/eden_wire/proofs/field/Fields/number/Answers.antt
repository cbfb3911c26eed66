use Rattle.std.proofs.Common.{rules}
use Rattle.std.proofs.lemmas.Bool.{some_since}
use Rattle.eden_wire.specs.Fields.Field.{of_number}
use Rattle.eden_wire.proofs.FieldLemmas.{next_begins, next_field, number_there, takes}
use Rattle.eden_wire.proofs.field.Fields.number.Goals as goal

pub next_part-requires : goal.next_part-requires
next_part-requires c = next_begins _ _ c.requires

pub unwrap-requires : goal.unwrap-requires
unwrap-requires c =
    let there = number_there _ (next_field _ _ _ _ c.requires c.next_part.ensures) in
    some_since _ _ _ c.read_number.ensures (λ none. none there.0 there.1 there.2)

pub returns : goal.returns
returns c = takes (of_number c.unwrap.result) _ _ _ c.next_part.ensures (search rules) (rw c.unwrap.ensures at c.read_number.ensures)
