-- Turns that threads take one after another, in the order of a lock.
use Rattle.std.specs.Prelude.{◌≡◌, ◌&&◌, ℕ, Bool, true, false, List, [], ◌∷◌, Option, None}
use Rattle.eden_model.specs.Numbers.{Numbers}
use Rattle.eden_model.specs.Trees.{Tree}
use Rattle.eden_shared.specs.Passes.{Carried}
use Rattle.eden_fuse_format.specs.declared.message.Header.{Header}
use Rattle.eden_fuse_format.specs.Asked.{Asked}
use Rattle.eden_fuse_session.specs.Turns.{Told}
use Rattle.eden_fuse_shown.specs.declared.manner.Manner.{Manner}
use Rattle.eden_fuse_shown.specs.Beginning.{IsBlank}
use Rattle.eden_fuse_shown.specs.Showing.{Showing, Shows, StoresAll, refuse}
use Rattle.eden_fuse_host.specs.Passing.{IsSameSeat, PassAnswers, PassSyncs}
use Rattle.eden_fuse_host.specs.Wants.{IsSilentIfWanted, is_interruption, needs_its_look}

-- what a folder begins with: the pass with which its turns ask the mount, and how it is shown
pub record Beginning : Type 0 where
  pub pass : Carried
  pub manner : Manner

abbrev pub beginning : Carried → Manner → Beginning
beginning p m = record { pass = p; manner = m }

-- a pass of the seat of the one beginning of this list
abbrev pub IsOf : List Beginning → Carried → Type 0
IsOf begun p = (b : Beginning) × (begun ≡ b ∷ []) × IsSameSeat b.pass p

-- a request of the kernel, whether the look before it met a fault, and its answer
pub record Exchange : Type 0 where
  pub header : Header
  pub asked : Asked
  pub faulted : Bool
  pub told : Told

module _ (honest : Type 0) (opening : Tree) (numbers : Numbers) where
  -- a request is refused with EIO (5), or passed over, and nothing changes; or else the folder answers it
  abbrev pub HeedsBy : (refused passed : Bool) → Showing Carried → Header → Asked → Told → Showing Carried → Type 0
  HeedsBy true passed old h a t new = (new ≡ old) × (t ≡ refuse 5)
  HeedsBy false true old h a t new = (new ≡ old) × (t ≡ None)
  HeedsBy false false old h a t new = Shows (PassAnswers honest opening numbers) PassSyncs old h a t new

  -- it is refused if the look that it needs met a fault, and passed over if it asks for nothing but to interrupt another
  abbrev pub Heeds : Bool → Showing Carried → Header → Asked → Told → Showing Carried → Type 0
  Heeds faulted old h a t new = HeedsBy (faulted && needs_its_look a) (is_interruption a) old h a t new

  -- these were answered one after another
  abbrev pub Exchanges : List Exchange → Showing Carried → Showing Carried → Type 0
  Exchanges [] old new = old ≡ new
  Exchanges (x ∷ xs) old new = (mid : Showing Carried) × Heeds x.faulted old x.header x.asked x.told mid × Exchanges xs mid new

  -- from a folder that was begun so, of which the kernel knew nothing yet, turns led here
  pub record IsRun (b : Beginning) (now : Showing Carried) : Type 0 where
    pub begun : Showing Carried
    pub mount : begun.mount ≡ b.pass
    pub manner : begun.manner ≡ b.manner
    pub blank : IsBlank begun
    pub exchanges : List Exchange
    pub run : Exchanges exchanges begun now

  -- .. from the one beginning of this list
  abbrev pub IsRunFrom : List Beginning → Showing Carried → Type 0
  IsRunFrom begun now = (b : Beginning) × (begun ≡ b ∷ []) × IsRun b now

  -- A request, the look before which met a fault or didn't, was answered so in its turn, to which other turns had led from
  -- there. It wasn't answered at all if the kernel wants no answer.
  pub record IsTurn (begun : List Beginning) (faulted : Bool) (h : Header) (a : Asked) (t : Told) : Type 0 where
    pub before : Showing Carried
    pub after : Showing Carried
    pub run : IsRunFrom begun before
    pub answered : Heeds faulted before h a t after
    pub silent : IsSilentIfWanted a t

  -- turns led from there to the end, in which all that waited was stored, or the number of the first error reported
  pub record IsShown (b : Beginning) (unstored : Option ℕ) (p' : Carried) : Type 0 where
    pub ended : Showing Carried
    pub run : IsRun b ended
    pub stored : StoresAll (PassAnswers honest opening numbers) ended.nodes ended.waits ended.mount unstored p'
    pub seat : IsSameSeat b.pass p'
