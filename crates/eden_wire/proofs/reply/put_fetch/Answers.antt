use Rattle.std.proofs.Common.{◌++◌, append_assoc, codes, sym}
use Rattle.hex.specs.Hex.{encode_lower}
use Rattle.eden_wire.specs.Replies.{cause_word}
use Rattle.eden_wire.proofs.Growing.{grows_then, grows_as}
use Rattle.eden_wire.proofs.reply.put_fetch.Goals as goal

pub returns : goal.returns
returns g c =
    let front = codes "fault fetch " ++ encode_lower c.args.id.bytes ++ codes " " in
    let whole = sym (append_assoc front (cause_word c.args.cause) (codes "\n")) in
    grows_as whole (grows_then (grows_then (grows_then c.put.ensures c.put_id.ensures) c.put-2.ensures) (grows_as c.cause_line.ensures c.put-3.ensures))
