use Rattle.std.proofs.Common.{ap, sym, ◌∙◌, length, List, ℕ}
use Rattle.std.specs.Fmt.{decimal}
use Rattle.eden_object.proofs.Cuts.{no_cut, one_cut}
use Rattle.eden_object.proofs.FrameLemmas.{frame_cut, decimal_lacks}
use Rattle.eden_object.proofs.frame.read_frame.Goals as goal

pub returns-in_err-length : goal.returns-in_err-length
returns-in_err-length c = rw c.from_residual-in_err-length.ensures (λ w body e.
    no_cut 0 c.in_ok-text.rest.now _ body c.in_err-length.ensures (frame_cut c.args.framed.now c.in_ok-text.text.now c.in_ok-text.rest.now w body c.in_ok-text.ensures.0 c.in_ok-text.ensures.1 e).1)

pub returns-in_err-word : goal.returns-in_err-word
returns-in_err-word c = rw c.from_residual-in_err-word.ensures (λ w body e.
    c.in_err-word.ensures w (frame_cut c.args.framed.now c.in_ok-text.text.now c.in_ok-text.rest.now w body c.in_ok-text.ensures.0 c.in_ok-text.ensures.1 e).0)

pub returns-else-spells : goal.returns-else-spells
returns-else-spells c = λ w body e.
    let rest = (frame_cut c.args.framed.now c.in_ok-text.text.now c.in_ok-text.rest.now w body c.in_ok-text.ensures.0 c.in_ok-text.ensures.1 e).1 in
    let parts = one_cut 0 c.in_ok-length.length.now c.in_ok-length.body.now (decimal (length body)) body c.in_ok-length.ensures.0 (decimal_lacks (length body)) (sym c.in_ok-length.ensures.1 ∙ rest) in
    let yes = c.if-spells.ensures.1 (parts.0 ∙ ap (λ (b : List ℕ). decimal (length b)) (sym parts.1)) in
    cc
