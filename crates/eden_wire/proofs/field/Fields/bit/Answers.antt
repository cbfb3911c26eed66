use Rattle.std.proofs.lemmas.Bool.{some_since}
use Rattle.eden_wire.specs.Fields.Field.{of_bit}
use Rattle.eden_wire.proofs.FieldLemmas.{next_begins, next_field, bit_there, takes}
use Rattle.eden_wire.proofs.field.Fields.bit.Goals as goal

pub next_part-requires : goal.next_part-requires
next_part-requires c = next_begins _ _ c.requires

pub unwrap-requires : goal.unwrap-requires
unwrap-requires c =
    let there = bit_there _ (next_field _ _ _ _ c.requires c.next_part.ensures) in
    some_since _ _ _ c.read_bit.ensures (λ none. none there.0 there.1)

pub returns : goal.returns
returns c = takes (of_bit c.unwrap.result) _ _ _ c.next_part.ensures tt (rw c.unwrap.ensures at c.read_bit.ensures)
