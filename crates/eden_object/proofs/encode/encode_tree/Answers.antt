use Rattle.std.proofs.Common.{map, sym, ap, ◌∙◌, subst}
use Rattle.std.specs.List.Sorted.{IsPermutation, IsSortedBy}
use Rattle.std.specs.Cmp.Lexicographic.{slice_cmp}
use Rattle.std.specs.Ordering.{is_lt, nat_cmp}
use Rattle.std.proofs.lemmas.List.Sorted.{IsPermutation-map}
use Rattle.std.proofs.lemmas.Result.{IfOk-weaker}
use Rattle.eden_object.proofs.EncodeLemmas.{ordered, same_differ, encoded, one_written}
use Rattle.eden_object.specs.Encoding.{tree_text}
use Rattle.eden_object.specs.Frames.{frame}
use Rattle.eden_object.specs.Order.{key_of, IsOrdered}
use Rattle.eden_object.specs.Trees.{AreEntries}
use Rattle.eden_object.specs.declared.word.Word.TheVariants as word
use Rattle.eden_object.proofs.encode.encode_tree.Goals as goal

-- what was sorted is the entries in another order
same : (c : goal.After-drop-sorted-2) → IsPermutation c.args.entries.now (map (λ e. e.now) c.as_slice.result.now)
same c =
    let moved = IsPermutation-map (λ e. e.now) _ _ c.sort.ensures.same in
    let from = subst (λ es. IsPermutation es (map (λ e. e.now) c.sort.new.entries.items)) c.in_ok-sorted.ensures moved in
    subst (λ xs. IsPermutation c.args.entries.now (map (λ e. e.now) xs)) (sym c.as_slice.ensures.value) from

grammar : (c : goal.After-drop-sorted-2) → AreEntries (map (λ e. e.now) c.as_slice.result.now) c.as_slice-2.result.now
grammar c = subst (AreEntries (map (λ e. e.now) c.as_slice.result.now)) (sym c.as_slice-2.ensures.value) c.in_ok-body.ensures.grammar

in_order : (c : goal.After-drop-sorted-2) → IsOrdered (map (λ e. e.now) c.as_slice.result.now)
in_order c =
    let up = subst (IsSortedBy (λ a b. is_lt (slice_cmp nat_cmp (key_of a.now) (key_of b.now)))) (sym c.as_slice.ensures.value) c.sort.ensures.ordered in
    let differ = same_differ c.args.entries.now (map (λ e. e.now) c.as_slice.result.now) (same c) c.requires.differ in
    ordered (λ e. e.now) c.as_slice.result.now c.as_slice-2.result.now up (grammar c) differ

pub returns-clause-written : goal.returns-clause-written
returns-clause-written c =
    let text = c.as_slice-2.ensures.value ∙ c.in_ok-body.ensures.text in
    let written = encoded c.args.entries.now (map (λ e. e.now) c.as_slice.result.now) c.as_slice-2.result.now in
    IfOk-weaker c.framed.result _ _ (λ framed e. written framed.items (same c) c.requires.differ c.requires.short (in_order c) text (grammar c) e) c.framed.ensures

pub returns-clause-kept : goal.returns-clause-kept
returns-clause-kept c = λ o.
    let one = one_written c.args.entries.now (map (λ e. e.now) c.as_slice.result.now) (same c) o (in_order c) in
    let text = c.as_slice-2.ensures.value ∙ c.in_ok-body.ensures.text ∙ ap tree_text (sym one) in
    IfOk-weaker c.framed.result _ _ (λ framed e. e ∙ ap (frame word.Tree) text) c.framed.ensures
