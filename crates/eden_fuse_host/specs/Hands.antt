-- What the threads of a folder do.
use Rattle.std.specs.Prelude.{◌≡◌, ◌++◌, ℕ, Bool, true, false, List, [], ◌∷◌, ⊤, Option, Result, Ok, Err}
use Rattle.eden_model.specs.Numbers.{Numbers}
use Rattle.eden_model.specs.Trees.{Tree}
use Rattle.eden_shared.specs.Passes.{Carried}
use Rattle.eden_fuse_format.specs.declared.message.Header.{Header}
use Rattle.eden_fuse_format.specs.Asked.{Asked}
use Rattle.eden_fuse_session.specs.declared.receiver.Receiver.{Ghosts as Receiver}
use Rattle.eden_fuse_session.specs.declared.sender.Sender.{Ghosts as Sender}
use Rattle.eden_fuse_session.specs.declared.serving.SessionFault.{SessionFault}
use Rattle.eden_fuse_session.specs.Sessions.{MessageSession}
use Rattle.eden_fuse_session.specs.Turns.{IsBriefly, Line, Told, told}
use Rattle.eden_fuse_shown.specs.declared.manner.Manner.{Manner}
use Rattle.eden_fuse_shown.specs.Looking.{ChangesNothing}
use Rattle.eden_fuse_host.specs.declared.turns.Taken.{Taken}
use Rattle.eden_fuse_host.specs.declared.turns.Taken.TheVariants.{Answered, Looks}
use Rattle.eden_fuse_host.specs.Lines.{Coming, IsFreshLine}
use Rattle.eden_fuse_host.specs.Passing.{HasLooked, HasMetFault}
use Rattle.eden_fuse_host.specs.Turns.{IsShown, IsTurn, beginning}

-- what a sender took, and how often it failed
abbrev pub taken_by : {O : Type 0} → Sender O → O → Line
taken_by sender o = (sender.sent o, sender.failures o)

-- what a turn answers a request: whether the look before it met a fault, the request, and the answer
abbrev pub Turning : Type 1
Turning = Bool → Header → Asked → Told → Type 0

-- a request had its turn without a look, with this answer; or this look, which changes nothing, goes before it
abbrev pub Takes : (Bool → Told → Type 0) → Taken → List ℕ → Type 0
Takes Turns (Answered said) bytes = Turns false (told said bytes) × IsBriefly said bytes
Takes Turns (Looks q) bytes = ChangesNothing q

-- A request is answered in its turn. Beside that looks alone were made with the pass; and if it counts that one met a fault,
-- the pass was told of the fault.
pub record HandAnswers (Turns : Turning) (p : Carried) (h : Header) (a : Asked) (t : Told) (p' : Carried) : Type 0 where
  pub looked : HasLooked p p'
  pub faulted : Bool
  pub turn : Turns faulted h a t
  pub cause : faulted ≡ true → HasMetFault p p'

-- the first fault of a session and those after it
abbrev pub first_told : Result ⊤ SessionFault → Result ⊤ SessionFault → Result ⊤ SessionFault
first_told (Err fault) later = Err fault
first_told (Ok _) later = later

module _ {V O : Type 0} (v : Receiver V) (o : Sender O) (Comes : Coming) (Turns : Turning) where
  -- A thread had a line of which nothing was taken and by which nothing was sent. Each message that it received had its turn,
  -- and what was said in it was sent, until the session ended so; the thread looked with this pass.
  pub record IsAttended (p p' : Carried) (said : Result ⊤ SessionFault) : Type 0 where
    pub receiver : V
    pub left : V
    pub sender : O
    pub sent : O
    pub whole : Comes (v.waiting receiver)
    pub unused : IsFreshLine (taken_by o sender)
    pub session : MessageSession (HandAnswers Turns) (p, taken_by o sender) (p', taken_by o sent) (v.waiting receiver) (v.waiting left) said
    pub looked : HasLooked p p'

  -- so with each of these passes, and the first fault is reported
  abbrev pub HaveAttended : List Carried → List Carried → Result ⊤ SessionFault → Type 0
  HaveAttended [] [] told = told ≡ Ok tt
  HaveAttended [] (p' ∷ ps') told = ⊥
  HaveAttended (p ∷ ps) [] told = ⊥
  HaveAttended (p ∷ ps) (p' ∷ ps') told = (said : Result ⊤ SessionFault) × (later : Result ⊤ SessionFault)
      × IsAttended p p' said × HaveAttended ps ps' later × (told ≡ first_told said later)

module _ {V O : Type 0} (v : Receiver V) (o : Sender O) (Comes : Coming) (honest : Type 0) (opening : Tree) (numbers : Numbers) where
  -- a folder was shown with the last of these passes, and a thread attended to it with each of the others; what wasn't stored at
  -- the end is reported
  pub record IsServed (m : Manner) (ps ps' : List Carried) (said : Result ⊤ SessionFault) (unstored : Option ℕ) : Type 0 where
    pub pass : Carried
    pub hands : List Carried
    pub before : ps ≡ hands ++ pass ∷ []
    pub pass' : Carried
    pub hands' : List Carried
    pub after : ps' ≡ hands' ++ pass' ∷ []
    pub attended : HaveAttended v o Comes (IsTurn honest opening numbers (beginning pass m ∷ [])) hands hands' said
    pub shown : IsShown honest opening numbers (beginning pass m) unstored pass'
