use Rattle.std.proofs.Common.{inl}
use Rattle.std.specs.Io.Buffered.{reader_with_inner}
use Rattle.eden_remote.proofs.socket.hear.Goals as goal

pub returns-clause-heard : goal.returns-clause-heard
returns-clause-heard g c =
    let asked = reader_with_inner c.args.connection.now c.ask.new.writer in
    let sent = rw c.get_mut.ensures.value at c.in_ok-ask.ensures.sent in
    inl (asked, sent, c.read_answer.ensures)
