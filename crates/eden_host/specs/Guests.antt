-- What a session is told of a guest's requests.
use Rattle.std.specs.Prelude.{◌≡◌, ◌+◌, ◌≤◌, ℕ, List, Result, Ok, Err}
use Rattle.std.specs.List.{AllByRecursion}
use Rattle.eden_model.specs.declared.fault.CallFault.{CallFault}
use Rattle.eden_model.specs.declared.fault.CallFault.TheVariants.{Start, Foreign, Stopped}
use Rattle.eden_model.specs.declared.request.Request.{Request}
use Rattle.eden_model.specs.declared.reply.Reply.{Reply}
use Rattle.eden_model.specs.Numbers.{Numbers}
use Rattle.eden_model.specs.Trees.{Tree}
use Rattle.eden_shared.specs.declared.account.Told.{Told}
use Rattle.eden_shared.specs.Accounts.{told_as}
use Rattle.eden_shared.specs.Calls.{Grows, IsRefusal}
use Rattle.eden_shared.specs.Passes.{Carried}

-- the pass waits for no number but those that it was told
pub record HasLearntNothing (p : Carried) : Type 0 where
  pub awaits : (most : ℕ) → AllByRecursion (λ (t : Told). t.number ≤ most) p.told → p.floor ≤ most + 1

-- .. and so each of these
pub record HaveLearntNothing (passes : List Carried) : Type 0 where
  pub each : AllByRecursion HasLearntNothing passes

-- what contracts see of a guest
pub record Visit : Type 0 where
  -- what its pass carries
  pub pass : Carried
  -- the last reply
  pub reply : Reply

module _ (honest : Type 0) (opening : Tree) (numbers : Numbers) where
  -- why a request isn't taken: the history is full, there is no memory, or the mount was stopped; the guest is never foreign
  abbrev pub IsTurnedAway : Carried → CallFault → Type 0
  IsTurnedAway p (Start why) = IsRefusal honest opening numbers p why
  IsTurnedAway p (Foreign floor length) = ⊥
  IsTurnedAway p Stopped = Unit {0}

  -- the pass was told of one call more, and its reply is the answer; or the request wasn't taken, and nothing changed
  abbrev pub GuestAnswers : Carried → Request → Result Reply CallFault → Carried → Type 0
  GuestAnswers old q (Ok reply) new = (n : ℕ) × Grows honest opening numbers old (told_as n q reply) new
  GuestAnswers old q (Err fault) new = IsTurnedAway old fault × (new ≡ old)

  -- .. by what the guest's pass carries
  abbrev pub VisitAnswers : Visit → Request → Result Reply CallFault → Visit → Type 0
  VisitAnswers g q answer g' = GuestAnswers g.pass q answer g'.pass
