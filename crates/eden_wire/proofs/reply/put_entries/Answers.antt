use Rattle.std.proofs.Common.{ap, decimal}
use Rattle.std.specs.List.{flat_map}
use Rattle.eden_wire.specs.Replies.{entry_text}
use Rattle.eden_wire.proofs.Growing.{grows_then, grows_as}
use Rattle.eden_wire.proofs.reply.put_entries.Goals as goal

pub returns : goal.returns
returns g c =
    let count = grows_as (ap decimal c.len.ensures) c.put_number.ensures in
    let rows = grows_as (ap (flat_map entry_text) c.as_slice.ensures) c.put_rows.ensures in
    grows_then (grows_then (grows_then c.put.ensures count) rows) c.put_more.ensures
