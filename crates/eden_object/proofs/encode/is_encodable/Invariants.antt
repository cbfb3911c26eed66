use Rattle.std.proofs.Common.{◌≡◌, ◌+◌, ◌^◌, length, map, take}
use Rattle.eden_object.specs.Encoding.{tree_text}
use Rattle.eden_object.proofs.encode.is_encodable.Given as goal

abbrev pub invariant-entries : goal.invariant-entries
invariant-entries l = record {
  names : map (λ n. n.now) l.names.items ≡ map (λ e. e.name) (take l.entry-index l.entries);
  room : l.room + length (tree_text (take l.entry-index l.entries)) ≡ 2 ^ 30;
}
