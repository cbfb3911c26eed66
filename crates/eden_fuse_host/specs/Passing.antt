-- What a shared mount says through a pass, and a pass with which looks alone were made.
use Rattle.std.specs.Prelude.{◌≡◌, ◌++◌, ℕ, Bool, List, [], ◌∷◌, Result, Ok, Err}
use Rattle.std.specs.List.{AllByRecursion}
use Rattle.eden_model.specs.declared.fault.CallFault.{CallFault}
use Rattle.eden_model.specs.declared.fault.Fault.{Fault as Cause}
use Rattle.eden_model.specs.declared.fault.Fault.TheVariants.{Overlay}
use Rattle.eden_model.specs.declared.request.Request.{Request}
use Rattle.eden_model.specs.declared.reply.Reply.{Reply}
use Rattle.eden_model.specs.declared.reply.Reply.TheVariants.{Fault}
use Rattle.eden_model.specs.Numbers.{Numbers}
use Rattle.eden_model.specs.Trees.{Tree}
use Rattle.eden_shared.specs.declared.account.Told.{Told}
use Rattle.eden_shared.specs.Accounts.{told_as}
use Rattle.eden_shared.specs.Calls.{Grows, IsLawful}
use Rattle.eden_shared.specs.Passes.{Carried}
use Rattle.eden_fuse_shown.specs.declared.mount.Unheard.{Unheard}
use Rattle.eden_fuse_shown.specs.Looking.{ChangesNothing}
use Rattle.eden_fuse_shown.specs.Running.{IsUnstored}

module _ (honest : Type 0) (opening : Tree) (numbers : Numbers) where
  -- the pass was told of one call more, and its reply is the mount's; or the request wasn't served, and the pass stays
  abbrev pub PassAnswers : Carried → Request → Result Reply CallFault → Carried → Type 0
  PassAnswers p q (Ok reply) p' = (n : ℕ) × Grows honest opening numbers p (told_as n q reply) p'
  PassAnswers p q (Err fault) p' = IsLawful honest opening numbers p fault × (p' ≡ p)

-- what is heard of a reply: it, or what kept the device from storing if it was that stored files failed
abbrev pub IsHeardAs : Reply → Result Reply Unheard → Type 0
IsHeardAs reply (Ok heard) = heard ≡ reply
IsHeardAs reply (Err why) = (reply ≡ Fault Overlay) × IsUnstored (Err why)

-- a pass is told nothing of a wait for the disk
abbrev pub PassSyncs : Carried → Bool → Carried → Type 0
PassSyncs p went p' = p' ≡ p

-- the pass of the same number of the same mount
abbrev pub IsSameSeat : Carried → Carried → Type 0
IsSameSeat p p' = (p'.number ≡ p.number) × (p'.terms ≡ p.terms)

-- .. was told of looks alone since then
pub record HasLooked (p p' : Carried) : Type 0 where
  pub seat : IsSameSeat p p'
  pub looks : List Told
  pub told : p'.told ≡ p.told ++ looks
  pub change_nothing : AllByRecursion (λ (t : Told). ChangesNothing t.request) looks

-- .. was told of one look since then, and its reply is a fault
abbrev pub HasMetFault : Carried → Carried → Type 0
HasMetFault p p' = (number : ℕ) × (look : Request) × (why : Cause) × (p'.told ≡ p.told ++ told_as number look (Fault why) ∷ [])
