use denote.Exit.{yes}
use denote.Param.Send.{arg_send, param_send}
use Rattle.sharing_tests.proofs.Sending.{Tree-send}
use Rattle.sharing_tests.proofs.callers.share.Goals as goal

pub run-callers-requires-send-T : goal.run-callers-requires-send-T
run-callers-requires-send-T g c = λ κs within. param_send 0 _ (arg_send _ yes _ Tree-send)
