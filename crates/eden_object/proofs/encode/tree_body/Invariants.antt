use Rattle.std.proofs.Common.{◌≡◌, map, take}
use Rattle.eden_object.specs.Encoding.{tree_text}
use Rattle.eden_object.specs.Trees.{AreEntries}
use Rattle.eden_object.proofs.encode.tree_body.Given as goal

abbrev pub invariant-entries : goal.invariant-entries
invariant-entries l = record {
  text : l.body.items ≡ tree_text (map (λ e. e.now) (take l.entry-index l.entries));
  grammar : AreEntries (map (λ e. e.now) (take l.entry-index l.entries)) l.body.items;
}
