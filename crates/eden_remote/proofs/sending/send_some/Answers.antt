use Rattle.std.proofs.Common.{arith, length-drop, length-take}
use Rattle.std.proofs.KnownBytes.{Appends-kept}
use Rattle.eden_remote.proofs.SendLemmas.{sent_more}
use Rattle.eden_remote.proofs.sending.send_some.Goals as goal
use Rattle.eden_remote.proofs.sending.send_some.Goals.{in-Ok, in-Err+else-ne}

pub writes-preserved : goal.writes-preserved
writes-preserved g c =
    let so = c.writes.invariant in
    elim c.match-write.branch [
      | in-Ok w ↦
          let fits = simp (length-take, length-drop) at w.in-Ok.ensures.bound in
          rw w.sent-is record {
            within = omega (arith, so.within);
            so_far = sent_more _ _ _ c.args.bytes.now c.writes.sent w.in-Ok.n so.so_far w.in-Ok.ensures.bytes;
          }
      | in-Err+else-ne w ↦ rw w.sent-is record { within = so.within; so_far = Appends-kept _ _ _ _ so.so_far w.in-Err.ensures.bytes }
    ]
