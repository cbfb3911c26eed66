use Rattle.std.proofs.Common.{refl}
use Rattle.eden_wire.specs.Fields.Field.{of_path, of_number, of_bit, of_data, of_after}
use Rattle.eden_wire.proofs.RequestLemmas.{builds, next, one_field, two_fields, three_fields}
use Rattle.eden_wire.proofs.request.build.Goals as goal
use Rattle.eden_wire.proofs.request.build.Goals.{in-Kind, in-Stat, in-Read, in-ReadLink, in-List+in_ok-after-in-List, in-Write+in_ok-data-in-Write, in-Truncate, in-Create, in-SetExec, in-Mkdir}
use Rattle.eden_wire.proofs.request.build.Goals.{in-Symlink+in_ok-data-in-Symlink, in-Unlink, in-Rmdir, in-Rename+in_ok-path-in-Rename}

pub first_path-requires : goal.first_path-requires
first_path-requires c = rw c.new-fields.ensures c.requires

pub number-requires : goal.number-requires
number-requires c = next (of_path c.in_ok-path.path) _ _ _ _ (rw c.in-Read.is at c.requires) (rw c.new-fields.ensures at c.in_ok-path.ensures)

pub after-requires : goal.after-requires
after-requires c = next (of_path c.in_ok-path.path) _ _ _ _ (rw c.in-List.is at c.requires) (rw c.new-fields.ensures at c.in_ok-path.ensures)

pub number-requires-in-Write : goal.number-requires-in-Write
number-requires-in-Write c = next (of_path c.in_ok-path.path) _ _ _ _ (rw c.in-Write.is at c.requires) (rw c.new-fields.ensures at c.in_ok-path.ensures)

pub number-requires-in-Truncate : goal.number-requires-in-Truncate
number-requires-in-Truncate c = next (of_path c.in_ok-path.path) _ _ _ _ (rw c.in-Truncate.is at c.requires) (rw c.new-fields.ensures at c.in_ok-path.ensures)

pub bit-requires : goal.bit-requires
bit-requires c = next (of_path c.in_ok-path.path) _ _ _ _ (rw c.in-SetExec.is at c.requires) (rw c.new-fields.ensures at c.in_ok-path.ensures)

pub data-requires-in-Symlink : goal.data-requires-in-Symlink
data-requires-in-Symlink c =
    let first = rw c.new-fields.ensures at c.in_ok-path.ensures in
    first.on _ (rw c.in-Symlink.is at c.requires)

pub path-requires : goal.path-requires
path-requires c = next (of_path c.in_ok-path.path) _ _ _ _ (rw c.in-Rename.is at c.requires) (rw c.new-fields.ensures at c.in_ok-path.ensures)

pub number-requires-in-Read : goal.number-requires-in-Read
number-requires-in-Read c =
    let first = rw c.new-fields.ensures at c.in_ok-path.ensures in
    next (of_number c.number.result) _ _ _ _ (first.on _ (rw c.in-Read.is at c.requires)) c.number.ensures

pub number-requires-in-List : goal.number-requires-in-List
number-requires-in-List c =
    let first = rw c.new-fields.ensures at c.in_ok-path.ensures in
    next (of_after c.in_ok-after-in-List.field-0) _ _ _ _ (first.on _ (rw c.in-List.is at c.requires)) c.in_ok-after-in-List.ensures

pub data-requires : goal.data-requires
data-requires c =
    let first = rw c.new-fields.ensures at c.in_ok-path.ensures in
    let second = c.number-in-Write.ensures in
    second.on _ (first.on _ (rw c.in-Write.is at c.requires))

pub returns : goal.returns
returns c =
    let path = c.in_ok-path.path in
    let first = rw c.new-fields.ensures at c.in_ok-path.ensures in
    elim c.match-word.branch [
      | in-Kind w ↦ rw (w.in-Kind.is, w.result-is) (builds _ _ _ _ refl (one_field (of_path path) _ _ (rw w.in-Kind.is at c.requires) first))
      | in-Stat w ↦ rw (w.in-Stat.is, w.result-is) (builds _ _ _ _ refl (one_field (of_path path) _ _ (rw w.in-Stat.is at c.requires) first))
      | in-Read w ↦ rw (w.in-Read.is, w.result-is)
          (builds _ _ _ _ refl (three_fields (of_path path) (of_number w.number.result) (of_number w.number-in-Read.result) _ _ _ _
          (rw w.in-Read.is at c.requires) first w.number.ensures w.number-in-Read.ensures))
      | in-ReadLink w ↦ rw (w.in-ReadLink.is, w.result-is) (builds _ _ _ _ refl (one_field (of_path path) _ _ (rw w.in-ReadLink.is at c.requires) first))
      | in-List+in_ok-after-in-List w ↦ rw (w.in-List.is, w.result-is)
          (builds _ _ _ _ refl (three_fields (of_path path) (of_after w.in_ok-after-in-List.field-0) (of_number w.number-in-List.result) _ _ _ _
          (rw w.in-List.is at c.requires) first w.in_ok-after-in-List.ensures w.number-in-List.ensures))
      | in-Write+in_ok-data-in-Write w ↦ rw (w.in-Write.is, w.result-is)
          (builds _ _ _ _ refl (three_fields (of_path path) (of_number w.number-in-Write.result) (of_data w.in_ok-data-in-Write.field-0) _ _ _ _
          (rw w.in-Write.is at c.requires) first w.number-in-Write.ensures w.in_ok-data-in-Write.ensures))
      | in-Truncate w ↦ rw (w.in-Truncate.is, w.result-is)
          (builds _ _ _ _ refl (two_fields (of_path path) (of_number w.number-in-Truncate.result) _ _ _ (rw w.in-Truncate.is at c.requires) first w.number-in-Truncate.ensures))
      | in-Create w ↦ rw (w.in-Create.is, w.result-is) (builds _ _ _ _ refl (one_field (of_path path) _ _ (rw w.in-Create.is at c.requires) first))
      | in-SetExec w ↦ rw (w.in-SetExec.is, w.result-is) (builds _ _ _ _ refl (two_fields (of_path path) (of_bit w.bit.result) _ _ _ (rw w.in-SetExec.is at c.requires) first w.bit.ensures))
      | in-Mkdir w ↦ rw (w.in-Mkdir.is, w.result-is) (builds _ _ _ _ refl (one_field (of_path path) _ _ (rw w.in-Mkdir.is at c.requires) first))
      | in-Symlink+in_ok-data-in-Symlink w ↦ rw (w.in-Symlink.is, w.result-is)
          (builds _ _ _ _ refl (two_fields (of_path path) (of_data w.in_ok-data-in-Symlink.field-0) _ _ _ (rw w.in-Symlink.is at c.requires) first w.in_ok-data-in-Symlink.ensures))
      | in-Unlink w ↦ rw (w.in-Unlink.is, w.result-is) (builds _ _ _ _ refl (one_field (of_path path) _ _ (rw w.in-Unlink.is at c.requires) first))
      | in-Rmdir w ↦ rw (w.in-Rmdir.is, w.result-is) (builds _ _ _ _ refl (one_field (of_path path) _ _ (rw w.in-Rmdir.is at c.requires) first))
      | in-Rename+in_ok-path-in-Rename w ↦ rw (w.in-Rename.is, w.result-is)
          (builds _ _ _ _ refl (two_fields (of_path path) (of_path w.in_ok-path-in-Rename.field-0) _ _ _ (rw w.in-Rename.is at c.requires) first w.in_ok-path-in-Rename.ensures))
    ]
