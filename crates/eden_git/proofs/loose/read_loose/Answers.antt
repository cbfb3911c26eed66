use Rattle.std.proofs.Common.{rules, ◌≡◌, ◌+◌, ◌++◌, length, drop, subst}
use Rattle.eden_git.specs.Framing.{header, IsFramedObject}
use Rattle.eden_git.proofs.FramingLemmas.{begins_split, framed_by_header}
use Rattle.eden_git.proofs.loose.read_loose.Goals as goal

pub returns-then-starts_with-clause-framed : goal.returns-then-starts_with-clause-framed
returns-then-starts_with-clause-framed c =
    let all = c.deref-2.result.now in
    let front = c.deref-3.result.now in
    let begins : front ≡ header c.in_ok-word.word c.in_ok-word.size = search rules in
    let whole : length all ≡ length front + c.in_ok-word.size = search rules in
    let split : all ≡ front ++ drop (length front) all = begins_split all front c.starts_with.result c.starts_with.ensures.value c.if-starts_with.true in
    subst IsFramedObject c.deref-2.ensures.value (framed_by_header c.in_ok-word.word c.in_ok-word.size front (drop (length front) all) all begins split whole c.in_ok-word.ensures.short)
