-- What is heard of a reply that a pass was told of.
use Rattle.std.specs.Prelude.{Result, Ok, Err}
use Rattle.std.proofs.Common.{sym, subst}
use Rattle.eden_model.specs.declared.request.Request.{Request}
use Rattle.eden_model.specs.declared.reply.Reply.{Reply}
use Rattle.eden_model.specs.Numbers.{Numbers}
use Rattle.eden_model.specs.Trees.{Tree}
use Rattle.eden_shared.specs.declared.lanes.Answered.{Answered}
use Rattle.eden_shared.specs.Accounts.{told_as}
use Rattle.eden_shared.specs.Calls.{Grows}
use Rattle.eden_shared.specs.Passes.{Carried}
use Rattle.eden_fuse_shown.specs.declared.mount.Unheard.{Unheard}
use Rattle.eden_fuse_shown.specs.declared.mount.Unheard.TheVariants as unheard
use Rattle.eden_fuse_shown.specs.Running.{Hears}
use Rattle.eden_fuse_host.specs.Passing.{IsHeardAs, PassAnswers}

pub told_heard : (honest : Type 0) (opening : Tree) (numbers : Numbers) (p new : Carried) (q : Request) (a : Answered) (r : Result Reply Unheard)
    → Grows honest opening numbers p (told_as a.number q a.reply) new → IsHeardAs a.reply r → Hears (PassAnswers honest opening numbers) p q r new
told_heard honest opening numbers p new q a (Ok reply) grown is = (a.number, subst (λ (s : Reply). Grows honest opening numbers p (told_as a.number q s) new) (sym is) grown)
told_heard honest opening numbers p new q a (Err (unheard.Blocked o)) grown is = (a.number, subst (λ (s : Reply). Grows honest opening numbers p (told_as a.number q s) new) is.0 grown)
told_heard honest opening numbers p new q a (Err (unheard.Fault f)) grown is = absurd is.1
told_heard honest opening numbers p new q a (Err unheard.Memory) grown is = absurd is.1
