use Rattle.std.proofs.Common.{◌++◌}
use Rattle.hex.specs.Hex.{encode_lower}
use Rattle.eden_wire.proofs.HexPieces.{hex_split, hex_all}
use Rattle.eden_wire.proofs.Growing.{grows_then, grows_as}
use Rattle.eden_wire.proofs.reply.put_hex.Goals as goal

pub pieces-preserved : goal.pieces-preserved
pieces-preserved g c =
    let so = c.pieces.invariant in
    (so.0 ++ encode_lower c.split_at.result.0.now, hex_split _ so.0 c.pieces.rest.now _ _ c.min.result so.1 c.split_at.ensures.front c.split_at.ensures.back, grows_then so.2 c.put_piece.ensures)

pub returns : goal.returns
returns g c =
    let so = c.pieces.invariant in
    grows_as (hex_all _ so.0 c.pieces.rest.now so.1 c.pieces-test.ensures) so.2
