use Rattle.std.proofs.Common.{◌≡◌, ◌∙◌, sym, refl, true, rules}
use Rattle.std.specs.List.{list_all}
use Rattle.eden_wire.specs.Names.{is_plain}
use Rattle.eden_wire.proofs.PathLemmas.{text_some, empty_is, some_is}
use Rattle.eden_wire.proofs.Scanning.{scans_plain}
use Rattle.eden_wire.proofs.name_text.scan_component.Goals as goal

pub returns-then-is_empty : goal.returns-then-is_empty
returns-then-is_empty c = λ name good e. text_some name good (sym e ∙ empty_is c.args.text.now c.if-is_empty.ensures)

pub returns : goal.returns
returns c =
    let plain : list_all is_plain c.args.text.now ≡ true = search rules in
    scans_plain c.args.text.now _ _ _ (some_is c.args.text.now c.if-is_empty.ensures) plain refl c.is_no_name.ensures c.refusal_by-refusal.ensures
