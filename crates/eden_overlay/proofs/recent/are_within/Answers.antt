use Rattle.std.proofs.Common.{◌+◌, arith}
use Rattle.eden_overlay.proofs.Kept.{bytes_within, no_bytes, one_more_counted}
use Rattle.eden_overlay.proofs.recent.are_within.Goals as goal

pub loop-one-init : goal.loop-one-init
loop-one-init c = let none = no_bytes in omega (arith, none)

pub loop-one-preserved : goal.loop-one-preserved
loop-one-preserved c =
    let more = one_more_counted c.args.kept.now c.loop-one.one-index c.one-item.result c.loop-one-test.true c.one-item.is in
    let so_far = c.loop-one.invariant in
    let long = c.len.ensures in
    let (fits, rest) = c.in-Some.ensures in
    omega (arith, more, so_far, long, fits, rest)

pub returns-in-None-clause-beyond : goal.returns-in-None-clause-beyond
returns-in-None-clause-beyond c = λ is within.
    let more = one_more_counted c.args.kept.now c.loop-one.one-index c.one-item.result c.loop-one-test.true c.one-item.is in
    let all = bytes_within c.args.kept.now (c.loop-one.one-index + 1) in
    let so_far = c.loop-one.invariant in
    let long = c.len.ensures in
    let none = c.in-None.ensures in
    omega (arith, more, all, so_far, long, none, within)
