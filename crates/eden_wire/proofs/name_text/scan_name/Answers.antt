use Rattle.std.proofs.Common.{◌<◌, length, sym, ◌∙◌, rules}
use Rattle.eden_wire.proofs.PathLemmas.{text_some, empty_is, some_is}
use Rattle.eden_wire.proofs.Scanning.{plain_front, name_more, name_bad, scans_name}
use Rattle.eden_wire.proofs.Slices.{slice-end}
use Rattle.eden_wire.proofs.name_text.scan_name.Goals as goal

pub returns-then-is_empty : goal.returns-then-is_empty
returns-then-is_empty c = λ name good e. text_some name good (sym e ∙ empty_is c.args.text.now c.if-is_empty.ensures)

pub bytes-init : goal.bytes-init
bytes-init c = record {
  some = some_is c.args.text.now c.if-is_empty.ensures;
  so_far = plain_front c.args.text.now _ c.plain_len-len.result c.plain_len-len.ensures.within c.plain_len-len.ensures.plain (slice-end c.args.text.now c.plain_len-len.result);
}

pub returns-in_err-b : goal.returns-in_err-b
returns-in_err-b c =
    let some : 0 < length c.bytes.rest.now = search rules in
    rw c.from_residual.ensures (name_bad c.bytes.invariant.so_far some c.in_err-b.ensures)

pub bytes-preserved : goal.bytes-preserved
bytes-preserved c = record {
  some = c.bytes.invariant.some;
  so_far = name_more c.in_ok-b.b c.bytes.invariant.so_far c.in_ok-b.ensures.1 c.in_ok-b.ensures.0 c.is_barred-barred.ensures;
}

pub returns : goal.returns
returns c =
    let at_end = empty_is c.bytes.rest.now c.bytes-test.ensures in
    scans_name c.bytes.invariant.some c.bytes.invariant.so_far at_end c.is_no_name.ensures c.refusal_by-refusal.ensures
