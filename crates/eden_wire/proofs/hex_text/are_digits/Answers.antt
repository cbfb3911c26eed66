use Rattle.std.proofs.Common.{◌∙◌, ap, sym, ◌&&◌, take}
use Rattle.std.specs.List.{list_all}
use Rattle.std.proofs.lemmas.List.{take_all}
use Rattle.std.proofs.lemmas.List.Folds.{list_all_more}
use Rattle.eden_model.specs.Bytes.{is_lower_hex_digit}
use Rattle.eden_wire.proofs.hex_text.are_digits.Goals as goal

pub digits-preserved : goal.digits-preserved
digits-preserved c =
    ap (λ v. v && c.is_lower_digit-good.result) c.digits.invariant ∙ ap (λ v. list_all is_lower_hex_digit (take c.digits.b-index c.args.text.now) && v) c.is_lower_digit-good.ensures
    ∙ sym (list_all_more is_lower_hex_digit c.args.text.now c.digits.b-index 0 c.digits-test.true)

pub returns : goal.returns
returns c = c.digits.invariant ∙ ap (list_all is_lower_hex_digit) (take_all c.digits.b-index c.args.text.now c.digits-test.false)
