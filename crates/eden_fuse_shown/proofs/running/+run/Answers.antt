use Rattle.eden_fuse_shown.proofs.Leading.{comes_on}
use Rattle.eden_fuse_shown.proofs.running.+run.Goals as goal

pub returns-in-Ok-next : goal.returns-in-Ok-next
returns-in-Ok-next g t c =
    comes_on g.M.Mount.answers c.args.step c.in-Ok-next.step c.in-Ask.request c.in-Ask.awaited c.in-Ok.reply c.args.mount.now c.ask.new.self c.run.new.mount c.run.result
    c.in-Ask.is c.in-Ok.ensures c.in-Ok-next.ensures c.run.ensures
