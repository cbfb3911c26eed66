use Rattle.std.proofs.Common.{[], ◌∷◌, ◌++◌, sym, ap, ◌∙◌, append_assoc}
use Rattle.std.specs.Vec.Iter.{into_iter_items}
use Rattle.mountd.proofs.Ended.{one_more_ended}
use Rattle.mountd.proofs.server.join_all.Goals as goal

pub loop-worker-preserved : goal.loop-worker-preserved
loop-worker-preserved g c =
    let at = c.loop-worker in let w = c.in-Some.worker in let rest = into_iter_items c.next.new.self in
    record {
      ended = one_more_ended g.I.Read g.O.Write at.yielded w _ _ _ at.invariant.ended c.join.ensures c.and-ended.ensures;
      workers = at.invariant.workers ∙ ap (λ l. at.yielded ++ l) c.in-Some.ensures.steps.0 ∙ sym (append_assoc at.yielded (w ∷ []) rest);
    }
