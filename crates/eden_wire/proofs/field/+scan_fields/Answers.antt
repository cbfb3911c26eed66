use Rattle.std.proofs.Common.{◌≡◌, length, MatchOption, rules}
use Rattle.eden_wire.specs.Splits.{BeginsWith}
use Rattle.eden_wire.specs.Scans.{SpellNoFields, ScansFields}
use Rattle.eden_wire.specs.declared.word.Sort.TheVariants as sort
use Rattle.eden_wire.proofs.FieldLemmas.{scans_more, none_first, none_later, by_head, by_only, begins_whole, last_scans, last_spells_none, match_map}
use Rattle.eden_wire.proofs.field.+scan_fields.Goals as goal

pub returns-in-len1 : goal.returns-in-len1
returns-in-len1 t c =
    let begins : BeginsWith 32 c.args.text.now = search rules in
    let one : length c.args.sorts.now ≡ 1 = search rules in
    let whole = begins_whole c.args.text.now begins in
    by_only (λ l. MatchOption c.scan_field.result (SpellNoFields l c.args.text.now) (ScansFields l c.args.text.now)) c.args.sorts.now _ one
    (match_map c.scan_field.result c.scan_field.ensures (last_spells_none _ _ _ whole) (λ refusal. last_scans _ _ _ refusal whole))

pub returns-in_err-refusal-in-len1-up : goal.returns-in_err-refusal-in-len1-up
returns-in_err-refusal-in-len1-up t c =
    rw c.from_residual.ensures (by_head (λ l. SpellNoFields l c.args.text.now) c.args.sorts.now _ (search rules)
    (none_first _ _ _ _ _ c.next_part.ensures c.in_err-refusal-in-len1-up.ensures))

pub returns-in_err-scan_fields-in-len1-up : goal.returns-in_err-scan_fields-in-len1-up
returns-in_err-scan_fields-in-len1-up t c =
    rw c.from_residual-in_err-scan_fields-in-len1-up.ensures
    (by_head (λ l. SpellNoFields l c.args.text.now) c.args.sorts.now sort.Path (search rules) (none_later _ _ _ _ _ c.next_part.ensures c.in_err-scan_fields-in-len1-up.ensures))

pub returns-in_ok-scan_fields-in-len1-up : goal.returns-in_ok-scan_fields-in-len1-up
returns-in_ok-scan_fields-in-len1-up t c =
    by_head (λ l. ScansFields l c.args.text.now c.or.result) c.args.sorts.now _ (search rules)
    (scans_more _ _ _ _ _ _ _ _ c.next_part.ensures c.in_ok-refusal-in-len1-up.ensures c.in_ok-scan_fields-in-len1-up.ensures c.or.ensures)
