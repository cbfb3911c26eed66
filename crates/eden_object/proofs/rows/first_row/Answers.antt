use Rattle.std.proofs.Common.{◌≡◌, ◌++◌, Some, None, sym, ap, ◌∙◌, refl}
use Rattle.eden_model.specs.Names.{name_refusal}
use Rattle.eden_object.specs.Trees.{spelled_mode}
use Rattle.eden_object.proofs.Cuts.{no_cut}
use Rattle.eden_object.proofs.RowLemmas.{cut_mode, cut_name, begin_from}
use Rattle.eden_object.proofs.rows.first_row.Goals as goal

pub returns-in_err-mode : goal.returns-in_err-mode
returns-in_err-mode c = rw c.from_residual-in_err-mode.ensures (λ e rest b.
    let modes = cut_mode e c.args.body.now rest c.in_ok-text.text.now c.in_ok-text.rest.now b c.in_ok-text.ensures.0 c.in_ok-text.ensures.1 in
    let other : None ≡ Some e.mode = c.in_err-mode.ensures ∙ ap spelled_mode modes.0 ∙ b.entry.spelled in
    cc)

pub returns-in_err-name : goal.returns-in_err-name
returns-in_err-name c = rw c.from_residual-in_err-name.ensures (λ e rest b.
    let modes = cut_mode e c.args.body.now rest c.in_ok-text.text.now c.in_ok-text.rest.now b c.in_ok-text.ensures.0 c.in_ok-text.ensures.1 in
    no_cut 0 c.in_ok-text.rest.now e.name (e.id.bytes ++ rest) c.in_err-name.ensures modes.1)

pub returns-then-not-is_name : goal.returns-then-not-is_name
returns-then-not-is_name c = λ e rest b.
    let modes = cut_mode e c.args.body.now rest c.in_ok-text.text.now c.in_ok-text.rest.now b c.in_ok-text.ensures.0 c.in_ok-text.ensures.1 in
    let names = cut_name e c.args.body.now rest b c.in_ok-name.name.now c.in_ok-name.rest.now c.in_ok-name.ensures.0 (sym modes.1 ∙ c.in_ok-name.ensures.1) in
    let good = c.if-not-is_name.ensures.1 (ap name_refusal names.0 ∙ b.entry.name) in
    cc

pub returns-in_err-id : goal.returns-in_err-id
returns-in_err-id c = rw c.from_residual-in_err-id.ensures (λ e rest b.
    let modes = cut_mode e c.args.body.now rest c.in_ok-text.text.now c.in_ok-text.rest.now b c.in_ok-text.ensures.0 c.in_ok-text.ensures.1 in
    let names = cut_name e c.args.body.now rest b c.in_ok-name.name.now c.in_ok-name.rest.now c.in_ok-name.ensures.0 (sym modes.1 ∙ c.in_ok-name.ensures.1) in
    c.in_err-id.ensures e.id.bytes rest b.entry.id names.1)

pub returns : goal.returns
returns c = begin_from c.in_ok-mode.mode c.in_ok-text.text.now c.in_ok-name.name.now c.in_ok-id.id.bytes c.args.body.now c.in_ok-text.rest.now c.in_ok-name.rest.now c.in_ok-id.rest.now
    (sym c.in_ok-mode.ensures) (c.if-not-is_name.ensures.0 refl) c.in_ok-id.ensures.0 c.in_ok-text.ensures.1 c.in_ok-name.ensures.1 c.in_ok-id.ensures.1
