use denote.Exit.{yes}
use denote.Param.Send.{arg_send, param_send}
use Rattle.sharing_tests.proofs.Sending.{Tree-send}
use Rattle.sharing_tests.proofs.mounts.serve.Goals as goal

pub host-hosted-requires-send-T : goal.host-hosted-requires-send-T
host-hosted-requires-send-T g c = λ κs within. param_send 1 _ (arg_send _ yes _ Tree-send)
