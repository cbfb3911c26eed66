use Rattle.std.proofs.Common.{rules, ◌≡◌, ◌==◌, ◌∙◌, List, ℕ, length, true, Some, None, sym, ap, if◌then◌else◌, option_and_then}
use Rattle.std.proofs.lemmas.Bool.{eq-eqb}
use Rattle.eden_fuse_format.specs.declared.structs.WriteIn.{WriteIn}
use Rattle.eden_fuse_format.specs.Members.{behind}
use Rattle.eden_fuse_format.specs.Structs.{write_in}
use Rattle.eden_fuse_format.specs.Asked.{Asked as asked}
use Rattle.eden_fuse_format.proofs.operation.written.Goals as goal

pub returns-then-bytes-head : goal.returns-then-bytes-head
returns-then-bytes-head c =
    let head = c.in_ok-head.head in
    let bytes = c.in_ok-bytes.bytes.now in
    let first : write_in c.args.body.now ≡ Some head = search rules in
    let rest : behind 40 c.args.body.now ≡ Some bytes = search rules in
    let same : (length bytes == head.size) ≡ true = eq-eqb (length bytes) head.size c.if-bytes-head.true in
    sym ((λ i. option_and_then (λ (s : WriteIn). option_and_then (λ (b : List ℕ). if length b == s.size then Some (asked.Write s b) else None) (rest i)) (first i))
    ∙ ap (λ t. if t then Some (asked.Write head bytes) else None) same)
