use Rattle.std.proofs.Common.{refl}
use Rattle.eden_wire.specs.Fields.Field.{of_path, of_number, of_bit, of_data, of_after}
use Rattle.eden_wire.proofs.Fronts.{completes_one, completes_two}
use Rattle.eden_wire.proofs.plain.complete.Goals as goal

pub returns-in_ok-last_number-in-Read : goal.returns-in_ok-last_number-in-Read
returns-in_ok-last_number-in-Read c = rw (c.in-Read.is, c.path.view_is)
    (completes_two _ _ _ _ _ (of_number c.in_ok-offset-in-Read.offset) (of_number c.in_ok-last_number-in-Read.field-0) refl c.in_ok-offset-in-Read.ensures c.in_ok-last_number-in-Read.ensures)

pub returns-in_ok-last_number-in-List : goal.returns-in_ok-last_number-in-List
returns-in_ok-last_number-in-List c = rw (c.in-List.is, c.path.view_is)
    (completes_two _ _ _ _ _ (of_after c.in_ok-after-in-List.after) (of_number c.in_ok-last_number-in-List.field-0) refl c.in_ok-after-in-List.ensures c.in_ok-last_number-in-List.ensures)

pub returns-in_ok-last_data-in-Write : goal.returns-in_ok-last_data-in-Write
returns-in_ok-last_data-in-Write c = rw (c.in-Write.is, c.path.view_is)
    (completes_two _ _ _ _ _ (of_number c.in_ok-offset-in-Write.offset) (of_data c.in_ok-last_data-in-Write.field-0) refl c.in_ok-offset-in-Write.ensures c.in_ok-last_data-in-Write.ensures)

pub returns-in_ok-last_number-in-Truncate : goal.returns-in_ok-last_number-in-Truncate
returns-in_ok-last_number-in-Truncate c = rw (c.in-Truncate.is, c.path.view_is)
    (completes_one _ _ _ _ (of_number c.in_ok-last_number-in-Truncate.field-0) refl c.in_ok-last_number-in-Truncate.ensures)

pub returns-in_ok-last_bit-in-SetExec : goal.returns-in_ok-last_bit-in-SetExec
returns-in_ok-last_bit-in-SetExec c = rw (c.in-SetExec.is, c.path.view_is)
    (completes_one _ _ _ _ (of_bit c.in_ok-last_bit-in-SetExec.field-0) refl c.in_ok-last_bit-in-SetExec.ensures)

pub returns-in_ok-last_data-in-Symlink : goal.returns-in_ok-last_data-in-Symlink
returns-in_ok-last_data-in-Symlink c = rw (c.in-Symlink.is, c.path.view_is)
    (completes_one _ _ _ _ (of_data c.in_ok-last_data-in-Symlink.field-0) refl c.in_ok-last_data-in-Symlink.ensures)

pub returns-in_ok-last_path-in-Rename : goal.returns-in_ok-last_path-in-Rename
returns-in_ok-last_path-in-Rename c = rw (c.in-Rename.is, c.path.view_is)
    (completes_one _ _ _ _ (of_path c.in_ok-last_path-in-Rename.field-0) refl c.in_ok-last_path-in-Rename.ensures)
