use Rattle.std.proofs.Common.{◌≢◌, ◌<◌, ◌≤◌, get_or, arith}
use Rattle.eden_wire.proofs.Fronts.{name_first}
use Rattle.eden_wire.proofs.plain.front_name.Goals as goal
use Rattle.eden_wire.proofs.plain.front_name.Goals.{else-len-lt3-via-then-len-lt3+else-text-eq46, else-len-lt3-via-else-len-lt3}

pub from_judged-requires : goal.from_judged-requires
from_judged-requires c =
    let text = c.args.text.now in
    let len = c.plain_len-len in
    let cut = c.split_at.ensures in
    let dotless : len.result < 3 → get_or text 0 0 ≢ 46 = λ few is. elim c.else-len-lt3.branch [
      | else-len-lt3-via-then-len-lt3+else-text-eq46 w ↦ omega (arith, is, w.if-text-eq46.false)
      | else-len-lt3-via-else-len-lt3 w ↦ omega (arith, few, w.if-len-lt3.false)
    ] in
    let some : 0 < len.result = omega (arith, c.if-len-eq0.false) in
    let short : len.result ≤ 255 = omega (arith, c.if-len-gt-MAX_NAME.false) in
    (name_first text _ _ len.result len.ensures.within some short len.ensures.plain dotless cut.front cut.back).named

pub returns : goal.returns
returns c =
    let text = c.args.text.now in
    let len = c.plain_len-len in
    let cut = c.split_at.ensures in
    let dotless : len.result < 3 → get_or text 0 0 ≢ 46 = λ few is. elim c.else-len-lt3.branch [
      | else-len-lt3-via-then-len-lt3+else-text-eq46 w ↦ omega (arith, is, w.if-text-eq46.false)
      | else-len-lt3-via-else-len-lt3 w ↦ omega (arith, few, w.if-len-lt3.false)
    ] in
    let some : 0 < len.result = omega (arith, c.if-len-eq0.false) in
    let short : len.result ≤ 255 = omega (arith, c.if-len-gt-MAX_NAME.false) in
    rw c.in-Ok.ensures.name (name_first text _ _ len.result len.ensures.within some short len.ensures.plain dotless cut.front cut.back)
