use Rattle.eden_wire.proofs.Decoding.{decoded}
use Rattle.eden_wire.proofs.name_text.spelled.Goals as goal

pub returns : goal.returns
returns c = λ name small e.
    rw (c.in_ok-append_to.ensures.ok, c.new-bytes.ensures.items, c.percent_decode.ensures.bytes) (decoded c.args.text.now name small e)
