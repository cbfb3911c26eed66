use Rattle.eden_wire.proofs.RequestLemmas.{cut_at, no_word, no_fields, refused, asked, asks_some, on_err}
use Rattle.eden_wire.proofs.request.read_any.Goals as goal

pub returns-in_default-clause-item : goal.returns-in_default-clause-item
returns-in_default-clause-item c = no_word _ _ _ (cut_at _ _ _ _ c.split_at.ensures.front c.split_at.ensures.back c.part_len.ensures) c.in_default.ensures

pub returns-in-None-clause-item : goal.returns-in-None-clause-item
returns-in-None-clause-item c =
    no_fields _ _ _ c.in-Some.word (cut_at _ _ _ _ c.split_at.ensures.front c.split_at.ensures.back c.part_len.ensures) c.in-Some.ensures (rw c.shape.ensures at c.in-None.ensures)

pub returns-in-Some-Some-clause-item : goal.returns-in-Some-Some-clause-item
returns-in-Some-Some-clause-item c =
    refused _ _ _ c.in-Some.word _ (cut_at _ _ _ _ c.split_at.ensures.front c.split_at.ensures.back c.part_len.ensures) c.in-Some.ensures
    (rw (c.shape.ensures, c.in-Some-Some.field-0-is) at c.in-Some-Some.ensures)

pub returns-in_err-build-in-Some-None-clause-memory : goal.returns-in_err-build-in-Some-None-clause-memory
returns-in_err-build-in-Some-None-clause-memory c =
    on_err c.from_residual.result (asks_some _ _ _ c.in-Some.word (cut_at _ _ _ _ c.split_at.ensures.front c.split_at.ensures.back c.part_len.ensures) c.in-Some.ensures
    (rw (c.shape.ensures, c.in-Some-None.field-0-is) at c.in-Some-None.ensures))

pub returns-in_ok-build-in-Some-None-clause-item : goal.returns-in_ok-build-in-Some-None-clause-item
returns-in_ok-build-in-Some-None-clause-item c =
    asked _ _ _ c.in-Some.word c.in_ok-build-in-Some-None.field-0 (cut_at _ _ _ _ c.split_at.ensures.front c.split_at.ensures.back c.part_len.ensures) c.in-Some.ensures
    (rw (c.shape.ensures, c.in-Some-None.field-0-is) at c.in-Some-None.ensures) c.in_ok-build-in-Some-None.ensures
