-- What guests' sessions make of their passes.
use Rattle.std.specs.Prelude.{◌≡◌, ◌⊎◌, List, [], ◌∷◌, Option, Some, None, Result, Ok, Err, ⊤}
use Rattle.std.specs.declared.io.Read.{Ghosts as Read}
use Rattle.std.specs.declared.io.Write.{Ghosts as Write}
use Rattle.eden_model.specs.Numbers.{Numbers}
use Rattle.eden_model.specs.Trees.{Tree}
use Rattle.eden_shared.specs.Passes.{Carried}
use Rattle.eden_wire.specs.declared.session_fault.SessionFault.{SessionFault}
use Rattle.eden_wire.specs.declared.session_fault.SessionFault.TheVariants.{Memory}
use Rattle.eden_wire.specs.Serving.{Session}
use Rattle.eden_host.specs.declared.fault.HostFault.{HostFault}
use Rattle.eden_host.specs.declared.fault.HostFault.TheVariants as host
use Rattle.eden_host.specs.Guests.{GuestAnswers}

-- the fault of listening is reported before that of a session, and that of a session before those of later ones
abbrev pub first_host_fault : Result ⊤ SessionFault → Result ⊤ HostFault → Result ⊤ HostFault
first_host_fault said (Err host.Listen) = Err host.Listen
first_host_fault (Err fault) (Err (host.Session later)) = Err (host.Session fault)
first_host_fault (Ok _) (Err (host.Session later)) = Err (host.Session later)
first_host_fault (Err fault) (Ok _) = Err (host.Session fault)
first_host_fault (Ok _) (Ok _) = Ok tt

-- what a pass's session and the passes after it come to: if it had no session, what those come to
abbrev pub gathered : Option (Result ⊤ SessionFault) → Option (Result ⊤ HostFault) → Option (Result ⊤ HostFault)
gathered None later = later
gathered (Some said) None = Some (first_host_fault said (Ok tt))
gathered (Some said) (Some later) = Some (first_host_fault said later)

-- what is reported of all passes: if none had a session, want of memory
abbrev pub outcome_of : Option (Result ⊤ HostFault) → Result ⊤ HostFault
outcome_of None = Err (host.Session Memory)
outcome_of (Some outcome) = outcome

module _ {I O : Type 0} (i : Read I) (o : Write O) (honest : Type 0) (opening : Tree) (numbers : Numbers) where
  -- a session was served with the pass, over what this reader gave and what this writer took, and ended so
  pub record IsAttended (p p' : Carried) (reader : I) (writer : O) (said : Result ⊤ SessionFault) : Type 0 where
    pub number : p'.number ≡ p.number
    pub terms : p'.terms ≡ p.terms
    pub unread : I
    pub written : O
    pub session : Session (GuestAnswers honest opening numbers) (p, p') (i.remaining reader, i.remaining unread) (o.contents writer, o.contents written) said

  -- the pass had a session over a connection; or it had none, and was told nothing
  abbrev pub IsSeated : Carried → Carried → Option (Result ⊤ SessionFault) → Type 0
  IsSeated p p' None = p' ≡ p
  IsSeated p p' (Some said) = (reader : I) × (writer : O) × IsAttended p p' reader writer said

  -- each pass in turn had its session or none, and the first fault is reported; or from one on they stayed as they were,
  -- since listening failed
  abbrev pub AreAttended : List Carried → List Carried → Option (Result ⊤ HostFault) → Type 0
  AreAttended [] [] outcome = outcome ≡ None
  AreAttended [] (p' ∷ ps') outcome = ⊥
  AreAttended (p ∷ ps) [] outcome = ⊥
  AreAttended (p ∷ ps) (p' ∷ ps') outcome =
      ((said : Option (Result ⊤ SessionFault)) × (later : Option (Result ⊤ HostFault)) × IsSeated p p' said
      × AreAttended ps ps' later × (outcome ≡ gathered said later))
      ⊎ ((p' ≡ p) × (ps' ≡ ps) × (outcome ≡ Some (Err host.Listen)))

  -- .. and that is reported of all
  abbrev pub AreHosted : List Carried → List Carried → Result ⊤ HostFault → Type 0
  AreHosted ps ps' outcome = (sessions : Option (Result ⊤ HostFault)) × AreAttended ps ps' sessions × (outcome ≡ outcome_of sessions)
