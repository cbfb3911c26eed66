use Rattle.std.proofs.Common.{◌<◌, arith}
use Rattle.eden_inode.proofs.Compared.{none_owned}
use Rattle.eden_inode.proofs.numbers.has_none_own.Goals as goal

pub returns : goal.returns
returns g c = λ yes. none_owned c.args.dir.now.rows (λ j e within h.
    let before : j < c.loop-i.i = omega (arith, within, c.count-i-end.ensures.value, c.loop-i-test.false, c.loop-i.auto.i-end) in
    c.loop-i.invariant j e before h)
