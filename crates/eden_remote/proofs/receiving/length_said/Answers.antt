use Rattle.std.proofs.Common.{Some, ◌∙◌, ap, ◌++◌, codes, sym, lit<, arith}
use Rattle.std.proofs.lemmas.Bool.Decides.{Decides-eqb}
use Rattle.std.proofs.lemmas.Slice.Eq.{strip_prefix_is}
use Rattle.eden_remote.proofs.NumberLemmas.{number_text}
use Rattle.eden_remote.proofs.receiving.length_said.Goals as goal

pub returns : goal.returns
returns c =
    let small = c.if-length-gt-LONGEST_FRAMED.false in
    let number = c.in-Some-read_length.ensures in
    let text = number_text c.in-Some.digits.now c.in-Some-read_length.length 1073741841 (lit< tt) number.0 number.1 (omega arith) in (
      strip_prefix_is Decides-eqb c.args.line.now (codes "object ") (Some c.in-Some.digits) c.in-Some.ensures.cases ∙ ap (λ l. codes "object " ++ l) (sym text),
      omega arith,
    )
