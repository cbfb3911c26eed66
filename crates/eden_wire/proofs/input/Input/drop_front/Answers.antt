use Rattle.std.proofs.Common.{◌+◌, ◌≤◌, rules}
use Rattle.eden_wire.proofs.Waiting.{fewer}
use Rattle.eden_wire.proofs.input.Input.drop_front.Goals as goal

pub returns-else-self : goal.returns-else-self
returns-else-self c =
    let within : c.args.self.now.start + c.args.n ≤ c.args.self.now.stop = search rules in
    fewer c.args.self.now.room.items c.args.self.now.start c.args.self.now.stop c.args.n within
