use Rattle.std.proofs.Common.{rules}
use Rattle.eden_wire.proofs.FieldLemmas.{no_path, no_after, is_path, is_number, is_bit, is_data, is_after, match_map}
use Rattle.eden_wire.proofs.field.scan_field.Goals as goal

pub returns-in-Path : goal.returns-in-Path
returns-in-Path c = rw c.in-Path.is (match_map c.scan_path.result c.scan_path.ensures (no_path c.args.text.now) (is_path c.args.text.now))

pub returns-in-After : goal.returns-in-After
returns-in-After c = rw c.in-After.is (match_map c.scan_after.result c.scan_after.ensures (no_after c.args.text.now) (is_after c.args.text.now))

pub returns-in-Some : goal.returns-in-Some
returns-in-Some c = rw c.in-Number.is (is_number _ c.in-Some.field-0 (search rules) c.in-Some.ensures)

pub returns-in-Some-read_bit : goal.returns-in-Some-read_bit
returns-in-Some-read_bit c = rw c.in-Bit.is (is_bit _ c.in-Some-read_bit.field-0 c.in-Some-read_bit.ensures)

pub returns-then-is_data : goal.returns-then-is_data
returns-then-is_data c = rw c.in-Data.is (is_data _ c.if-is_data.ensures)
