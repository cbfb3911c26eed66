-- What a message comes to, by its first reply.
use Rattle.std.proofs.Common.{◌≡◌, ◌∷◌, Result, Ok, inl, sym, subst}
use Rattle.eden_model.specs.declared.reply.Reply.{Reply}
use Rattle.eden_model.specs.declared.request.Request.{Request}
use Rattle.eden_fuse_meaning.specs.declared.step.Outcome.{Outcome}
use Rattle.eden_fuse_meaning.specs.declared.step.Step.{Step}
use Rattle.eden_fuse_meaning.specs.declared.step.Step.TheVariants.{Ask}
use Rattle.eden_fuse_meaning.specs.declared.step.Then.{Then}
use Rattle.eden_fuse_meaning.specs.Steps.{next}
use Rattle.eden_fuse_shown.specs.declared.mount.Unheard.{Unheard}
use Rattle.eden_fuse_shown.specs.Running.{Replying, Hears, Leads, Comes}

module _ {S : Type 0} (answers : Replying S) where
  -- a request was answered, and what its reply led to came to that
  pub comes_on : (step after : Step) (q : Request) (awaited : Then) (reply : Reply) (s u t : S) (r : Result Outcome Unheard)
      → step ≡ Ask q awaited → Hears answers s q (Ok reply) u → after ≡ next awaited reply → Comes answers after u r t → Comes answers step s r t
  comes_on step after q awaited reply s u t r is heard on (replies, leads) =
      let rest : Leads answers (next awaited reply) replies u r t = subst (λ (x : Step). Leads answers x replies u r t) on leads in
      subst (λ (x : Step). Comes answers x s r t) (sym is) (reply ∷ replies, (u, heard, inl rest))
