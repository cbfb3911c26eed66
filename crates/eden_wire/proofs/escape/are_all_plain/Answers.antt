use Rattle.std.proofs.Common.{◌≤◌, ◌+◌, length, ap, sym, ◌∙◌, arith}
use Rattle.std.specs.List.{list_all}
use Rattle.std.proofs.lemmas.Bool.{and_from}
use Rattle.std.proofs.lemmas.List.{take_all}
use Rattle.std.proofs.lemmas.List.Folds.{list_all_more}
use Rattle.eden_wire.specs.Names.{is_plain}
use Rattle.eden_wire.proofs.PlainBytes.{four_more}
use Rattle.eden_wire.proofs.escape.are_all_plain.Goals as goal

pub fours-preserved : goal.fours-preserved
fours-preserved c =
    let more : c.fours.fours + 4 ≤ length c.args.text.now = omega (arith, c.fours-test.true, c.fours.invariant.within) in
    record { within = more; plain = four_more c.args.text.now c.fours.fours more c.fours.invariant.plain (sym c.are_plain.ensures ∙ c.if-are_plain.true) }

pub bytes-preserved : goal.bytes-preserved
bytes-preserved c = list_all_more is_plain c.args.text.now c.bytes.i 0 (omega arith) ∙ and_from _ _ c.bytes.invariant (sym c.if-not-is_plain.ensures)

pub returns : goal.returns
returns c _ =
    let text = c.args.text.now in
    ap (list_all is_plain) (sym (take_all c.bytes.i text (omega arith))) ∙ c.bytes.invariant
