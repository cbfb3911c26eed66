use Rattle.std.proofs.Common.{◌++◌, ◌∷◌, [], map, take, sym, ap, ◌∙◌, subst}
use Rattle.std.proofs.lemmas.List.{map_more, take_all}
use Rattle.eden_object.specs.Encoding.{entry_text, tree_text}
use Rattle.eden_object.specs.Trees.{AreEntries}
use Rattle.eden_object.proofs.EncodeLemmas.{entries_push, text_push}
use Rattle.eden_object.proofs.encode.tree_body.Goals as goal

pub entries-preserved : goal.entries-preserved
entries-preserved c =
    let done = map (λ e. e.now) (take c.entries.entry-index c.args.entries.now) in
    let entry = c.entry-item.result.now in
    let more = map_more (λ e. e.now) c.args.entries.now c.entries.entry-index c.entry-item.result c.entries-test.true ∙ ap (λ e. done ++ e.now ∷ []) (sym c.entry-item.is) in
    let pushed = c.in_ok-push_entry.ensures.text ∙ ap (λ t. t ++ entry_text entry) c.entries.invariant.text in
    let grammar = entries_push done c.entries.body.items entry (entry_text entry) c.entries.invariant.grammar c.in_ok-push_entry.ensures.grammar in
    record {
      text = pushed ∙ sym (text_push done entry) ∙ ap tree_text (sym more);
      grammar = subst (λ es. AreEntries es c.push_entry.new.body.items) (sym more) (subst (AreEntries (done ++ entry ∷ [])) (sym c.in_ok-push_entry.ensures.text) grammar);
    }

pub returns : goal.returns
returns c =
    let all = take_all c.entries.entry-index c.args.entries.now c.entries-test.false in
    record {
      text = c.entries.invariant.text ∙ ap (λ es. tree_text (map (λ e. e.now) es)) all;
      grammar = subst (λ es. AreEntries (map (λ e. e.now) es) c.entries.body.items) all c.entries.invariant.grammar;
    }
