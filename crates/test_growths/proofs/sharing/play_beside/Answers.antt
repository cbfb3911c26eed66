use denote.Exit.{yes}
use denote.Param.Send.{arg_send, param_send}
use Rattle.test_growths.proofs.Sending.{Tree-send}
use Rattle.test_growths.proofs.sharing.play_beside.Goals as goal

pub beside_fetcher-came-requires-send-T : goal.beside_fetcher-came-requires-send-T
beside_fetcher-came-requires-send-T g c = λ κs within. param_send 0 _ (arg_send _ yes _ Tree-send)
