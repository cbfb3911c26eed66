use Rattle.std.proofs.Common.{rules, ◌∙◌, ap, sym}
use Rattle.std.specs.List.{AllPass}
use Rattle.std.specs.Result.{result_ok}
use Rattle.eden_model.specs.Bytes.{is_lower_hex_digit}
use Rattle.eden_object.proofs.IdLemmas.{encode_lower-decoded, id_text_decodes, none_is_not_some}
use Rattle.eden_object.proofs.id_text.parse_id.Goals as goal

pub returns-in_err-bytes-clause-found : goal.returns-in_err-bytes-clause-found
returns-in_err-bytes-clause-found c =
    let none = c.in_err-bytes.was in
    let value = c.ok.ensures.value in
    let sized = c.from_hex.ensures in (
      λ h. absurd (none_is_not_some c.from_residual.result c.from_residual.ensures h),
      λ h. let decoded = id_text_decodes c.args.text.now h in
          let some = ap result_ok (sized ∙ decoded.1) in
          cc,
    )

pub returns-clause-value : goal.returns-clause-value
returns-clause-value c =
    let digits : AllPass is_lower_hex_digit c.args.text.now = search rules in
    encode_lower-decoded c.args.text.now c.in_ok-bytes.bytes digits
    (ap result_ok (sym c.from_hex.ensures) ∙ sym c.ok.ensures.value ∙ c.in_ok-bytes.was)
