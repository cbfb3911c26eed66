use Rattle.std.proofs.Common.{sym, ap, ◌∙◌, arith}
use Rattle.eden_object.specs.Frames.{frame, word_of}
use Rattle.eden_object.proofs.CheckLemmas.{behind_header, sound_behind}
use Rattle.eden_object.proofs.object.Object.new.Goals as goal

pub invariant_of-result : goal.invariant_of-result
invariant_of-result c =
    let size = c.as_slice.ensures.len in
    let whole = c.as_slice.ensures.value in
    let behind = behind_header c.args.kind c.args.framed.items c.as_slice.result.now c.requires c.len.result c.in-Some.field-0-0 c.in-Some.body.now whole
    (c.len.ensures ∙ sym size) c.in-Some.ensures in
    (omega arith, sound_behind c.args.kind c.args.framed.items _ c.requires behind)

pub returns-clause-body : goal.returns-clause-body
returns-clause-body c =
    let size = c.as_slice.ensures.len in
    let whole = c.as_slice.ensures.value in
    let behind = behind_header c.args.kind c.args.framed.items c.as_slice.result.now c.requires c.len.result c.in-Some.field-0-0 c.in-Some.body.now whole
    (c.len.ensures ∙ sym size) c.in-Some.ensures in
    c.requires.is ∙ ap (frame (word_of c.args.kind)) (sym behind)
