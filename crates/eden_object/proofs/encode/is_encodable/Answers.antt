use Rattle.std.proofs.Common.{◌++◌, ◌∷◌, [], length, map, take, length-append, sym, ap, ◌∙◌, arith}
use Rattle.std.proofs.lemmas.List.{map_push, take_more, take_all}
use Rattle.std.proofs.lemmas.List.Folds.{length-flat_map-take}
use Rattle.eden_object.specs.Encoding.{entry_text, tree_text}
use Rattle.eden_object.proofs.EncodeLemmas.{text_push}
use Rattle.eden_object.proofs.SortLemmas.{names_distinct}
use Rattle.eden_object.proofs.encode.is_encodable.Goals as goal

pub returns-then-size-room : goal.returns-then-size-room
returns-then-size-room c = (
  (λ e. cc),
  (λ h.
      let most = length-flat_map-take entry_text c.args.entries.now c.entries.entry-index c.entry-item.result c.entries-test.true in
      let size = c.entry_len-size.ensures ∙ ap (λ e. length (entry_text e)) c.entry-item.is in
      let room = c.entries.invariant.room in
      let short = h.1 in
      absurd (omega arith)),
)

pub entries-preserved : goal.entries-preserved
entries-preserved c =
    let done = take c.entries.entry-index c.args.entries.now in
    let entry = c.entry-item.result in
    let more = take_more c.args.entries.now c.entries.entry-index entry c.entries-test.true ∙ ap (λ e. done ++ e ∷ []) (sym c.entry-item.is) in
    let pushed = ap (map (λ n. n.now)) c.in_ok-push.ensures.items ∙ map_push (λ n. n.now) c.entries.names.items c.as_slice.result in
    let name = ap (λ ns. ns ++ c.as_slice.result.now ∷ []) c.entries.invariant.names ∙ ap (λ n. map (λ e. e.name) done ++ n ∷ []) c.as_slice.ensures.bytes in
    let text = ap length (ap tree_text more ∙ text_push done entry) ∙ length-append (tree_text done) (entry_text entry) in
    record {
      names = pushed ∙ name ∙ sym (ap (map (λ e. e.name)) more ∙ map_push (λ e. e.name) done entry);
      room = let room = c.entries.invariant.room in let size = c.entry_len-size.ensures in let fits = c.if-size-room.false in omega arith;
    }

pub returns : goal.returns
returns c =
    let all = take_all c.entries.entry-index c.args.entries.now c.entries-test.false in
    let names = names_distinct (λ n. n.now) c.args.entries.now c.entries.names.items (c.entries.invariant.names ∙ ap (map (λ e. e.name)) all) in
    let room = c.entries.invariant.room in
    let whole = ap (λ es. length (tree_text es)) all in
    ((λ t. (names.1 (c.differ_sorted.ensures.0 t), omega arith)), (λ h. c.differ_sorted.ensures.1 (names.0 h.0)))
