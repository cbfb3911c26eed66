use Rattle.std.proofs.Common.{length, ap, sym, ◌∙◌, arith}
use Rattle.std.specs.List.{list_all}
use Rattle.std.proofs.lemmas.Bool.{and_from}
use Rattle.std.proofs.lemmas.List.{take_all}
use Rattle.std.proofs.lemmas.List.Folds.{list_all_more}
use Rattle.eden_wire.specs.Names.{is_plain}
use Rattle.eden_wire.proofs.escape.plain_len.Goals as goal

pub bytes-preserved : goal.bytes-preserved
bytes-preserved c = list_all_more is_plain c.args.text.now c.bytes.i 0 (omega arith) ∙ and_from _ _ c.bytes.invariant (sym c.if-not-is_plain.ensures)

pub returns-clause-plain : goal.returns-clause-plain
returns-clause-plain c =
    let text = c.args.text.now in
    ap (list_all is_plain) (take_all (length text) text (omega arith) ∙ sym (take_all c.bytes.i text (omega arith))) ∙ c.bytes.invariant
